-- A piece of the input, of which a front was taken.
use Rattle.std.proofs.Common.{◌≡◌, ℕ, ◌+◌, ◌-◌, ◌<◌, ◌≤◌, Bool, List, [], ◌∷◌, ◌++◌, length, take, drop, get_or, Option, Some, None, Result, Ok, Err, IfOk, IfSome, OnErr, sym, subst, ap, ◌∙◌}
use Rattle.std.proofs.lemmas.List.{take_more, take-append-drop}
use Rattle.outside.specs.declared.failed.Failed.{Failed}
use Rattle.session.specs.Standing.{Stand, GoesOn, IsLeft, IsCut}
use Rattle.session.proofs.CommandFacts.{take_both, part_is}
use Rattle.session.proofs.RunFacts.{goes_both, goes_left, goes_cut, left_on, cut_more}

-- ---- its first byte

first_byte : (piece : List ℕ) → 0 < length piece → take 1 piece ≡ get_or piece 0 0 ∷ []
first_byte piece some = take_more piece 0 0 some

byte_rest : (piece : List ℕ) → 0 < length piece → get_or piece 0 0 ∷ drop 1 piece ≡ piece
byte_rest piece some = ap (λ t. t ++ drop 1 piece) (sym (first_byte piece some)) ∙ take-append-drop 1 piece

pub byte_goes : (clock : ℕ → Bool) (old new : Stand) (kept then_kept : List ℕ) (a b : Option (List ℕ)) (piece : List ℕ) → 0 < length piece → GoesOn clock old new kept then_kept a b (get_or piece 0 0 ∷ []) → GoesOn clock old new kept then_kept a b (take 1 piece)
byte_goes clock old new kept then_kept a b piece some goes = subst (GoesOn clock old new kept then_kept a b) (sym (first_byte piece some)) goes

pub byte_left : (clock : ℕ → Bool) (old new : Stand) (kept : List ℕ) (a b : Option (List ℕ)) (piece : List ℕ) → 0 < length piece → IsLeft clock old new kept a b (get_or piece 0 0 ∷ []) → IsLeft clock old new kept a b piece
byte_left clock old new kept a b piece some left = subst (IsLeft clock old new kept a b) (byte_rest piece some) (left_on clock old new kept a b (get_or piece 0 0 ∷ []) (drop 1 piece) left)

pub byte_cut : (clock : ℕ → Bool) (old new : Stand) (kept : List ℕ) (a b : Option (List ℕ)) (piece : List ℕ) → 0 < length piece → IsCut clock old new kept a b (get_or piece 0 0 ∷ []) → IsCut clock old new kept a b piece
byte_cut clock old new kept a b piece some cut = subst (IsCut clock old new kept a b) (byte_rest piece some) (cut_more clock old new kept a b (get_or piece 0 0 ∷ []) (drop 1 piece) cut)

-- ---- a run, where no line was begun

pub goes_begun : (clock : ℕ → Bool) (old new : Stand) (kept : List ℕ) (a b : Option (List ℕ)) (more : List ℕ) → kept ≡ [] → GoesOn clock old new [] [] a b more → GoesOn clock old new kept kept a b more
goes_begun clock old new kept a b more none goes = subst (λ k. GoesOn clock old new k k a b more) (sym none) goes

pub cut_begun : (clock : ℕ → Bool) (old new : Stand) (kept : List ℕ) (a b : Option (List ℕ)) (more : List ℕ) → kept ≡ [] → IsCut clock old new [] a b more → IsCut clock old new kept a b more
cut_begun clock old new kept a b more none cut = subst (λ k. IsCut clock old new k a b more) (sym none) cut

-- ---- what is behind the front

pub piece_goes : (clock : ℕ → Bool) (old mid new : Stand) (kept between then_kept : List ℕ) (a b c : Option (List ℕ)) (piece : List ℕ) (at size : ℕ) → at ≤ length piece → GoesOn clock old mid kept between a b (take at piece) →
    GoesOn clock mid new between then_kept b c (take size (take (length piece - at) (drop at piece))) → GoesOn clock old new kept then_kept a c (take (at + size) piece)
piece_goes clock old mid new kept between then_kept a b c piece at size within first then =
    let next = subst (λ p. GoesOn clock mid new between then_kept b c (take size p)) (part_is piece at) then in
    subst (GoesOn clock old new kept then_kept a c) (sym (take_both piece at size within))
    (goes_both clock old mid new kept between then_kept a b c (take at piece) (take size (drop at piece)) first next)

pub piece_left : (clock : ℕ → Bool) (old mid new : Stand) (kept between : List ℕ) (a b c : Option (List ℕ)) (piece : List ℕ) (at : ℕ) → GoesOn clock old mid kept between a b (take at piece) → IsLeft clock mid new between b c (take (length piece - at) (drop at piece)) →
    IsLeft clock old new kept a c piece
piece_left clock old mid new kept between a b c piece at first then =
    let next = subst (IsLeft clock mid new between b c) (part_is piece at) then in
    subst (IsLeft clock old new kept a c) (take-append-drop at piece) (goes_left clock old mid new kept between a b c (take at piece) (drop at piece) first next)

pub piece_cut : (clock : ℕ → Bool) (old mid new : Stand) (kept between : List ℕ) (a b c : Option (List ℕ)) (piece : List ℕ) (at : ℕ) → GoesOn clock old mid kept between a b (take at piece) → IsCut clock mid new between b c (take (length piece - at) (drop at piece)) →
    IsCut clock old new kept a c piece
piece_cut clock old mid new kept between a b c piece at first then =
    let next = subst (IsCut clock mid new between b c) (part_is piece at) then in
    subst (IsCut clock old new kept a c) (take-append-drop at piece) (goes_cut clock old mid new kept between a b c (take at piece) (drop at piece) first next)

-- ---- what a call says of the front that it took

-- the value of an option that is known
pub some_holds : {T : Type 0} (P : T → Type 0) (r : Option T) (x : T) → r ≡ Some x → IfSome r P → P x
some_holds {T = T} P r x e h = let Q : Option T → Type 0 = λ v. IfSome v P in subst Q e h

-- a front that was taken after nothing
pub front_behind : (clock : ℕ → Bool) (old mid new : Stand) (kept then_kept : List ℕ) (a b c : Option (List ℕ)) (piece : List ℕ) (result : Result (Option ℕ) Failed) → GoesOn clock old mid kept kept a b [] →
    IfOk result (λ front. IfSome front (λ size. GoesOn clock mid new kept then_kept b c (take size piece))) → IfOk result (λ front. IfSome front (λ size. GoesOn clock old new kept then_kept a c (take size piece)))
front_behind clock old mid new kept then_kept a b c piece (Ok (Some size)) none goes = goes_both clock old mid new kept kept then_kept a b c [] (take size piece) none goes
front_behind clock old mid new kept then_kept a b c piece (Ok None) none goes = tt
front_behind clock old mid new kept then_kept a b c piece (Err e) none goes = tt

pub left_behind : (clock : ℕ → Bool) (old mid new : Stand) (kept : List ℕ) (a b c : Option (List ℕ)) (piece : List ℕ) → GoesOn clock old mid kept kept a b [] → IsLeft clock mid new kept b c piece → IsLeft clock old new kept a c piece
left_behind clock old mid new kept a b c piece none left = goes_left clock old mid new kept kept a b c [] piece none left

pub cut_behind : (clock : ℕ → Bool) (old mid new : Stand) (kept : List ℕ) (a b c : Option (List ℕ)) (piece : List ℕ) (result : Result (Option ℕ) Failed) → GoesOn clock old mid kept kept a b [] → OnErr result (IsCut clock mid new kept b c piece) → OnErr result (IsCut clock old new kept a c piece)
cut_behind clock old mid new kept a b c piece (Ok front) none cut = tt
cut_behind clock old mid new kept a b c piece (Err e) none cut = goes_cut clock old mid new kept kept a b c [] piece none cut

-- no byte was taken
pub goes_zero : (clock : ℕ → Bool) (old new : Stand) (kept : List ℕ) (a b : Option (List ℕ)) (piece : List ℕ) (size : ℕ) → kept ≡ [] → size ≡ 0 → GoesOn clock old new [] [] a b (take size piece) → GoesOn clock old new kept kept a b []
goes_zero clock old new kept a b piece size none zero goes = goes_begun clock old new kept a b [] none (subst (λ n. GoesOn clock old new [] [] a b (take n piece)) zero goes)
