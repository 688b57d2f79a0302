-- The fields of each change: what is read is spelled so, and what is spelled so is read.
use Rattle.std.proofs.Common.{◌≡◌, ℕ, ◌≤◌, Bool, true, false, cond, eqb, List, [], ◌∷◌, ◌++◌, length, flat_map, Option, Some, Ok, refl, sym, ap, subst, ◌∙◌, ◌⊎◌, inl, inr, append_assoc, arith, eqb-true}
use Rattle.std.specs.Int.{w16, to_le_bytes}
use Rattle.std.proofs.lemmas.List.Elements.{All-from_recursion, recursion_from_All}
use Rattle.units_core.specs.Day.{DayParts}
use Rattle.network_laws.specs.Solutions.{SolutionData, IsSolution}
use Rattle.command_types.specs.declared.cycle.Mode.{Mode}
use Rattle.command_types.specs.declared.cycle.Mode.TheVariants as modes
use Rattle.command_types.specs.declared.trade.Side.{Side}
use Rattle.command_types.specs.declared.trade.Side.TheVariants.{Out, In}
use Rattle.command_types.specs.declared.ask.What.{What}
use Rattle.command_types.specs.declared.ask.What.TheVariants.{Hello, Trade, Affirm, End, Hold, Free, Tol, Nets, Statement, Freeze, Begin, Limits, Row, Pot, Post, Fetch, Next, Plan, Proof, Accept, Decline, Cancel, Bye, Unreadable}
use Rattle.command_types.specs.Spelling.{most_solutions, number_spelling, name_spelling, day_spelling, ceiling_spelling, side_byte, mode_byte, solution_spelling, fields_spelling, IsNumber, AreFields}
use Rattle.record_codec.specs.Reading.{Read, ◌>>=◌, number_at, count_at, name_at, amount_at, level_at, day_at, side_at, mode_at, ceiling_at, trade_fields, tolerance_fields, freeze_fields, begin_fields, numbered_fields, versioned_fields, post_fields, solutions_at, fields_at, change_at}
use Rattle.record_codec.proofs.FieldFacts.{IsBytes, IsBytes-rest, Takes, Takes-then, IsFormat, bind_ok, ok_is, seq_takes, seq_again}
use Rattle.record_codec.proofs.KindFacts.{number_format, count_format, name_format, amount_format, level_format, day_format, ceiling_format, bit_format, three_way, three_format}
use Rattle.record_codec.proofs.SolutionReading.{solutions_take, solutions_again}

-- ---- sides and modes

which_side : (s : Side) → (Out ≡ s) ⊎ (In ≡ s)
which_side Out = inl refl
which_side In = inr refl

pub side_format : IsFormat side_at (λ s. side_byte s ∷ []) (λ s. Unit {0})
side_format = bit_format Out In side_byte refl refl which_side

mode_again : (m : Mode) → three_way modes.Conservative modes.Hybrid modes.Free (mode_byte m ∷ []) ≡ Some m
mode_again modes.Conservative = refl
mode_again modes.Hybrid = refl
mode_again modes.Free = refl

mode_format : IsFormat mode_at (λ m. mode_byte m ∷ []) (λ m. Unit {0})
mode_format = three_format modes.Conservative modes.Hybrid modes.Free mode_byte refl refl refl mode_again

-- ---- what was read, behind its tag

-- the bytes are the spelling of this change and a rest
abbrev Reads : List ℕ → What × List ℕ → Type 0
Reads bytes x = Takes bytes (fields_spelling x.0) x.1 × AreFields x.0

behind_tag : (tag : ℕ) (bytes text rest : List ℕ) → Takes bytes text rest → Takes (tag ∷ bytes) (tag ∷ text) rest
behind_tag tag bytes text rest t = record { parts = ap (λ (b : List ℕ). tag ∷ b) t.parts; rest_fits = t.rest_fits }

-- ---- trades

abbrev after_day : List ℕ → List ℕ → List ℕ → ℕ → DayParts × List ℕ → Read What
after_day seller buyer product amount day = Ok (Trade seller buyer product amount day.0, day.1)

abbrev after_amount : List ℕ → List ℕ → List ℕ → ℕ × List ℕ → Read What
after_amount seller buyer product amount = day_at amount.1 >>= after_day seller buyer product amount.0

abbrev after_product : List ℕ → List ℕ → List ℕ × List ℕ → Read What
after_product seller buyer product = amount_at product.1 >>= after_amount seller buyer product.0

abbrev after_buyer : List ℕ → List ℕ × List ℕ → Read What
after_buyer seller buyer = name_at buyer.1 >>= after_product seller buyer.0

abbrev after_seller : List ℕ × List ℕ → Read What
after_seller seller = name_at seller.1 >>= after_buyer seller.0

trade_takes : (bytes : List ℕ) (x : What × List ℕ) → IsBytes bytes → trade_fields bytes ≡ Ok x → Reads (1 ∷ bytes) x
unfolding trade_fields
trade_takes bytes x fits e =
    let s = seq_takes name_format bytes after_seller x fits e in
    let b = seq_takes name_format s.0.1 (after_buyer s.0.0) x s.1.rest_fits s.3 in
    let p = seq_takes name_format b.0.1 (after_product s.0.0 b.0.0) x b.1.rest_fits b.3 in
    let a = seq_takes amount_format p.0.1 (after_amount s.0.0 b.0.0 p.0.0) x p.1.rest_fits p.3 in
    let d = seq_takes day_format a.0.1 (after_day s.0.0 b.0.0 p.0.0 a.0.0) x a.1.rest_fits a.3 in
    let t1 = behind_tag 1 bytes (name_spelling s.0.0) s.0.1 s.1 in
    let t2 = Takes-then (1 ∷ bytes) (1 ∷ name_spelling s.0.0) s.0.1 (name_spelling b.0.0) b.0.1 t1 b.1 in
    let t3 = Takes-then (1 ∷ bytes) (1 ∷ name_spelling s.0.0 ++ name_spelling b.0.0) b.0.1 (name_spelling p.0.0) p.0.1 t2 p.1 in
    let t4 = Takes-then (1 ∷ bytes) (1 ∷ name_spelling s.0.0 ++ name_spelling b.0.0 ++ name_spelling p.0.0) p.0.1 (number_spelling a.0.0) a.0.1 t3 a.1 in
    let t5 = Takes-then (1 ∷ bytes) (1 ∷ name_spelling s.0.0 ++ name_spelling b.0.0 ++ name_spelling p.0.0 ++ number_spelling a.0.0) a.0.1 (day_spelling d.0.0) d.0.1 t4 d.1 in
    subst (λ (y : What × List ℕ). Reads (1 ∷ bytes) y) (ok_is (Trade s.0.0 b.0.0 p.0.0 a.0.0 d.0.0, d.0.1) x d.3) (t5, (s.2, b.2, p.2, a.2, d.2))

regroup_5 : (a b c d e rest : List ℕ) → a ++ b ++ c ++ d ++ e ++ rest ≡ a ++ (b ++ (c ++ (d ++ (e ++ rest))))
regroup_5 a b c d e rest = simp append_assoc

trade_again : (seller buyer product : List ℕ) (amount : ℕ) (day : DayParts) (rest : List ℕ) → AreFields (Trade seller buyer product amount day)
    → trade_fields (name_spelling seller ++ name_spelling buyer ++ name_spelling product ++ number_spelling amount ++ day_spelling day ++ rest) ≡ Ok (Trade seller buyer product amount day, rest)
unfolding trade_fields
trade_again seller buyer product amount day rest is =
    let r4 : List ℕ = day_spelling day ++ rest in
    let r3 : List ℕ = number_spelling amount ++ r4 in
    let r2 : List ℕ = name_spelling product ++ r3 in
    let r1 : List ℕ = name_spelling buyer ++ r2 in
    ap trade_fields (regroup_5 (name_spelling seller) (name_spelling buyer) (name_spelling product) (number_spelling amount) (day_spelling day) rest)
    ∙ seq_again name_format seller r1 after_seller is.0
    ∙ seq_again name_format buyer r2 (after_buyer seller) is.1
    ∙ seq_again name_format product r3 (after_product seller buyer) is.2
    ∙ seq_again amount_format amount r4 (after_amount seller buyer product) is.3
    ∙ seq_again day_format day rest (after_day seller buyer product amount) is.4

-- ---- tolerances

abbrev after_ceiling : List ℕ → List ℕ → Side → ℕ → Option ℕ × List ℕ → Read What
after_ceiling other product side floor ceiling = Ok (Tol other product side floor ceiling.0, ceiling.1)

abbrev after_floor : List ℕ → List ℕ → Side → ℕ × List ℕ → Read What
after_floor other product side floor = ceiling_at floor.1 >>= after_ceiling other product side floor.0

abbrev after_side : List ℕ → List ℕ → Side × List ℕ → Read What
after_side other product side = level_at side.1 >>= after_floor other product side.0

abbrev after_second : List ℕ → List ℕ × List ℕ → Read What
after_second other product = side_at product.1 >>= after_side other product.0

abbrev after_other : List ℕ × List ℕ → Read What
after_other other = name_at other.1 >>= after_second other.0

tolerance_takes : (bytes : List ℕ) (x : What × List ℕ) → IsBytes bytes → tolerance_fields bytes ≡ Ok x → Reads (6 ∷ bytes) x
unfolding tolerance_fields
tolerance_takes bytes x fits e =
    let o = seq_takes name_format bytes after_other x fits e in
    let p = seq_takes name_format o.0.1 (after_second o.0.0) x o.1.rest_fits o.3 in
    let s = seq_takes side_format p.0.1 (after_side o.0.0 p.0.0) x p.1.rest_fits p.3 in
    let f = seq_takes level_format s.0.1 (after_floor o.0.0 p.0.0 s.0.0) x s.1.rest_fits s.3 in
    let c = seq_takes ceiling_format f.0.1 (after_ceiling o.0.0 p.0.0 s.0.0 f.0.0) x f.1.rest_fits f.3 in
    let t1 = behind_tag 6 bytes (name_spelling o.0.0) o.0.1 o.1 in
    let t2 = Takes-then (6 ∷ bytes) (6 ∷ name_spelling o.0.0) o.0.1 (name_spelling p.0.0) p.0.1 t1 p.1 in
    let sf = Takes-then p.0.1 (side_byte s.0.0 ∷ []) s.0.1 (number_spelling f.0.0) f.0.1 s.1 f.1 in
    let t3 = Takes-then (6 ∷ bytes) (6 ∷ name_spelling o.0.0 ++ name_spelling p.0.0) p.0.1 (side_byte s.0.0 ∷ number_spelling f.0.0) f.0.1 t2 sf in
    let t4 = Takes-then (6 ∷ bytes) (6 ∷ name_spelling o.0.0 ++ name_spelling p.0.0 ++ side_byte s.0.0 ∷ number_spelling f.0.0) f.0.1 (ceiling_spelling c.0.0) c.0.1 t3 c.1 in
    subst (λ (y : What × List ℕ). Reads (6 ∷ bytes) y) (ok_is (Tol o.0.0 p.0.0 s.0.0 f.0.0 c.0.0, c.0.1) x c.3) (t4, (o.2, p.2, f.2, c.2))

regroup_4 : (a b c d rest : List ℕ) → a ++ b ++ c ++ d ++ rest ≡ a ++ (b ++ (c ++ (d ++ rest)))
regroup_4 a b c d rest = simp append_assoc

tolerance_again : (other product : List ℕ) (side : Side) (floor : ℕ) (ceiling : Option ℕ) (rest : List ℕ) → AreFields (Tol other product side floor ceiling)
    → tolerance_fields (name_spelling other ++ name_spelling product ++ side_byte side ∷ number_spelling floor ++ ceiling_spelling ceiling ++ rest) ≡ Ok (Tol other product side floor ceiling, rest)
unfolding tolerance_fields
tolerance_again other product side floor ceiling rest is =
    let r4 : List ℕ = ceiling_spelling ceiling ++ rest in
    let r3 : List ℕ = number_spelling floor ++ r4 in
    let r2 : List ℕ = (side_byte side ∷ []) ++ r3 in
    let r1 : List ℕ = name_spelling product ++ r2 in
    ap tolerance_fields (regroup_4 (name_spelling other) (name_spelling product) (side_byte side ∷ number_spelling floor) (ceiling_spelling ceiling) rest)
    ∙ seq_again name_format other r1 after_other is.0
    ∙ seq_again name_format product r2 (after_second other) is.1
    ∙ seq_again side_format side r3 (after_side other product) tt
    ∙ seq_again level_format floor r4 (after_floor other product side) is.2
    ∙ seq_again ceiling_format ceiling rest (after_ceiling other product side floor) is.3

-- ---- the smaller ones

abbrev after_freeze : DayParts × List ℕ → Read What
after_freeze day = Ok (Freeze day.0, day.1)

freeze_takes : (bytes : List ℕ) (x : What × List ℕ) → IsBytes bytes → freeze_fields bytes ≡ Ok x → Reads (7 ∷ bytes) x
unfolding freeze_fields
freeze_takes bytes x fits e =
    let d = seq_takes day_format bytes after_freeze x fits e in
    subst (λ (y : What × List ℕ). Reads (7 ∷ bytes) y) (ok_is (Freeze d.0.0, d.0.1) x d.3) (behind_tag 7 bytes (day_spelling d.0.0) d.0.1 d.1, d.2)

freeze_again : (day : DayParts) (rest : List ℕ) → AreFields (Freeze day) → freeze_fields (day_spelling day ++ rest) ≡ Ok (Freeze day, rest)
unfolding freeze_fields
freeze_again day rest is = seq_again day_format day rest after_freeze is

abbrev after_mode : ℕ → Mode × List ℕ → Read What
after_mode cycle mode = Ok (Begin cycle mode.0, mode.1)

abbrev after_begun : ℕ × List ℕ → Read What
after_begun cycle = mode_at cycle.1 >>= after_mode cycle.0

begin_takes : (bytes : List ℕ) (x : What × List ℕ) → IsBytes bytes → begin_fields bytes ≡ Ok x → Reads (8 ∷ bytes) x
unfolding begin_fields
begin_takes bytes x fits e =
    let c = seq_takes number_format bytes after_begun x fits e in
    let m = seq_takes mode_format c.0.1 (after_mode c.0.0) x c.1.rest_fits c.3 in
    let t1 = behind_tag 8 bytes (number_spelling c.0.0) c.0.1 c.1 in
    let t2 = Takes-then (8 ∷ bytes) (8 ∷ number_spelling c.0.0) c.0.1 (mode_byte m.0.0 ∷ []) m.0.1 t1 m.1 in
    subst (λ (y : What × List ℕ). Reads (8 ∷ bytes) y) (ok_is (Begin c.0.0 m.0.0, m.0.1) x m.3) (t2, c.2)

begin_again : (cycle : ℕ) (mode : Mode) (rest : List ℕ) → AreFields (Begin cycle mode) → begin_fields (number_spelling cycle ++ mode_byte mode ∷ [] ++ rest) ≡ Ok (Begin cycle mode, rest)
unfolding begin_fields
begin_again cycle mode rest is =
    seq_again number_format cycle ((mode_byte mode ∷ []) ++ rest) after_begun is
    ∙ seq_again mode_format mode rest (after_mode cycle) tt

abbrev after_number : (ℕ → What) → ℕ × List ℕ → Read What
after_number make number = Ok (make number.0, number.1)

-- a change of one number
numbered_takes : (tag : ℕ) (make : ℕ → What) → ((n : ℕ) → fields_spelling (make n) ≡ tag ∷ number_spelling n) → ((n : ℕ) → IsNumber n → AreFields (make n)) → (bytes : List ℕ) (x : What × List ℕ) → IsBytes bytes → numbered_fields make bytes ≡ Ok x → Reads (tag ∷ bytes) x
unfolding numbered_fields
numbered_takes tag make spells are bytes x fits e =
    let n = seq_takes number_format bytes (after_number make) x fits e in
    let t : Takes (tag ∷ bytes) (fields_spelling (make n.0.0)) n.0.1 = subst (λ (text : List ℕ). Takes (tag ∷ bytes) text n.0.1) (sym (spells n.0.0)) (behind_tag tag bytes (number_spelling n.0.0) n.0.1 n.1) in
    subst (λ (y : What × List ℕ). Reads (tag ∷ bytes) y) (ok_is (make n.0.0, n.0.1) x n.3) (t, are n.0.0 n.2)

numbered_again : (make : ℕ → What) (n : ℕ) (rest : List ℕ) → IsNumber n → numbered_fields make (number_spelling n ++ rest) ≡ Ok (make n, rest)
unfolding numbered_fields
numbered_again make n rest is = seq_again number_format n rest (after_number make) is

abbrev after_version : (ℕ → ℕ → What) → ℕ → ℕ × List ℕ → Read What
after_version make cycle version = Ok (make cycle version.0, version.1)

abbrev after_cycle : (ℕ → ℕ → What) → ℕ × List ℕ → Read What
after_cycle make cycle = number_at cycle.1 >>= after_version make cycle.0

-- a change of a cycle and a version
versioned_takes : (tag : ℕ) (make : ℕ → ℕ → What) → ((c v : ℕ) → fields_spelling (make c v) ≡ tag ∷ number_spelling c ++ number_spelling v) → ((c v : ℕ) → IsNumber c → IsNumber v → AreFields (make c v)) → (bytes : List ℕ) (x : What × List ℕ) → IsBytes bytes → versioned_fields make bytes ≡ Ok x → Reads (tag ∷ bytes) x
unfolding versioned_fields
versioned_takes tag make spells are bytes x fits e =
    let c = seq_takes number_format bytes (after_cycle make) x fits e in
    let v = seq_takes number_format c.0.1 (after_version make c.0.0) x c.1.rest_fits c.3 in
    let both = Takes-then (tag ∷ bytes) (tag ∷ number_spelling c.0.0) c.0.1 (number_spelling v.0.0) v.0.1 (behind_tag tag bytes (number_spelling c.0.0) c.0.1 c.1) v.1 in
    let t : Takes (tag ∷ bytes) (fields_spelling (make c.0.0 v.0.0)) v.0.1 = subst (λ (text : List ℕ). Takes (tag ∷ bytes) text v.0.1) (sym (spells c.0.0 v.0.0)) both in
    subst (λ (y : What × List ℕ). Reads (tag ∷ bytes) y) (ok_is (make c.0.0 v.0.0, v.0.1) x v.3) (t, are c.0.0 v.0.0 c.2 v.2)

versioned_again : (make : ℕ → ℕ → What) (c v : ℕ) (rest : List ℕ) → IsNumber c → IsNumber v → versioned_fields make (number_spelling c ++ number_spelling v ++ rest) ≡ Ok (make c v, rest)
unfolding versioned_fields
versioned_again make c v rest is_c is_v =
    seq_again number_format c (number_spelling v ++ rest) (after_cycle make) is_c
    ∙ seq_again number_format v rest (after_version make c) is_v

-- ---- posts

abbrev after_solutions : ℕ → ℕ → List SolutionData × List ℕ → Read What
after_solutions cycle version solutions = Ok (Post cycle version solutions.0, solutions.1)

abbrev after_count : ℕ → ℕ → ℕ × List ℕ → Read What
after_count cycle version count = solutions_at count.0 count.1 >>= after_solutions cycle version

abbrev after_posted : ℕ → ℕ × List ℕ → Read What
after_posted cycle version = count_at most_solutions version.1 >>= after_count cycle version.0

abbrev after_post : ℕ × List ℕ → Read What
after_post cycle = number_at cycle.1 >>= after_posted cycle.0

post_takes : (bytes : List ℕ) (x : What × List ℕ) → IsBytes bytes → post_fields bytes ≡ Ok x → Reads (9 ∷ bytes) x
unfolding post_fields
post_takes bytes x fits e =
    let c = seq_takes number_format bytes after_post x fits e in
    let v = seq_takes number_format c.0.1 (after_posted c.0.0) x c.1.rest_fits c.3 in
    let n = seq_takes (count_format 64 (omega arith)) v.0.1 (after_count c.0.0 v.0.0) x v.1.rest_fits v.3 in
    let s = bind_ok (solutions_at n.0.0 n.0.1) (after_solutions c.0.0 v.0.0) x n.3 in
    let each = solutions_take n.0.0 n.0.1 s.0 n.1.rest_fits s.1 in
    let counted : Takes v.0.1 (to_le_bytes w16 (length s.0.0)) n.0.1 = subst (λ (k : ℕ). Takes v.0.1 (to_le_bytes w16 k) n.0.1) (sym each.1) n.1 in
    let list = Takes-then v.0.1 (to_le_bytes w16 (length s.0.0)) n.0.1 (flat_map solution_spelling s.0.0) s.0.1 counted each.0 in
    let t1 = behind_tag 9 bytes (number_spelling c.0.0) c.0.1 c.1 in
    let t2 = Takes-then (9 ∷ bytes) (9 ∷ number_spelling c.0.0) c.0.1 (number_spelling v.0.0) v.0.1 t1 v.1 in
    let t3 = Takes-then (9 ∷ bytes) (9 ∷ number_spelling c.0.0 ++ number_spelling v.0.0) v.0.1 (to_le_bytes w16 (length s.0.0) ++ flat_map solution_spelling s.0.0) s.0.1 t2 list in
    let few : length s.0.0 ≤ 64 = omega (arith, each.1, n.2) in
    subst (λ (y : What × List ℕ). Reads (9 ∷ bytes) y) (ok_is (Post c.0.0 v.0.0 s.0.0, s.0.1) x s.2) (t3, (c.2, v.2, few, All-from_recursion IsSolution s.0.0 each.2))

post_again : (cycle version : ℕ) (solutions : List SolutionData) (rest : List ℕ) → AreFields (Post cycle version solutions)
    → post_fields (number_spelling cycle ++ number_spelling version ++ (to_le_bytes w16 (length solutions) ++ flat_map solution_spelling solutions) ++ rest) ≡ Ok (Post cycle version solutions, rest)
unfolding post_fields
post_again cycle version solutions rest is =
    let r3 : List ℕ = flat_map solution_spelling solutions ++ rest in
    let r2 : List ℕ = to_le_bytes w16 (length solutions) ++ r3 in
    let r1 : List ℕ = number_spelling version ++ r2 in
    seq_again number_format cycle r1 after_post is.0
    ∙ seq_again number_format version r2 (after_posted cycle) is.1
    ∙ seq_again (count_format 64 (omega arith)) (length solutions) r3 (after_count cycle version) is.2
    ∙ ap (λ (r : Read (List SolutionData)). r >>= after_solutions cycle version) (solutions_again solutions rest (recursion_from_All IsSolution solutions is.3))

-- ---- all changes

pick : {P : Type 0} (b : Bool) (l r : Read What) (x : What × List ℕ) → cond b l r ≡ Ok x → (b ≡ true → l ≡ Ok x → P) → (r ≡ Ok x → P) → P
pick true l r x e this others = this refl e
pick false l r x e this others = others e

tagged : (tag known : ℕ) (bytes : List ℕ) (x : What × List ℕ) → eqb tag known ≡ true → Reads (known ∷ bytes) x → Reads (tag ∷ bytes) x
tagged tag known bytes x e h = subst (λ (k : ℕ). Reads (k ∷ bytes) x) (sym (eqb-true tag known e)) h

fields_take : (tag : ℕ) (bytes : List ℕ) (x : What × List ℕ) → IsBytes bytes → fields_at tag bytes ≡ Ok x → Reads (tag ∷ bytes) x
fields_take tag bytes x fits e =
    pick (eqb tag 1) _ _ x e (λ t h. tagged tag 1 bytes x t (trade_takes bytes x fits h)) (λ e.
    pick (eqb tag 2) _ _ x e (λ t h. tagged tag 2 bytes x t (numbered_takes 2 Affirm (λ n. refl) (λ n is. is) bytes x fits h)) (λ e.
    pick (eqb tag 3) _ _ x e (λ t h. tagged tag 3 bytes x t (numbered_takes 3 End (λ n. refl) (λ n is. is) bytes x fits h)) (λ e.
    pick (eqb tag 4) _ _ x e (λ t h. tagged tag 4 bytes x t (numbered_takes 4 Hold (λ n. refl) (λ n is. is) bytes x fits h)) (λ e.
    pick (eqb tag 5) _ _ x e (λ t h. tagged tag 5 bytes x t (numbered_takes 5 Free (λ n. refl) (λ n is. is) bytes x fits h)) (λ e.
    pick (eqb tag 6) _ _ x e (λ t h. tagged tag 6 bytes x t (tolerance_takes bytes x fits h)) (λ e.
    pick (eqb tag 7) _ _ x e (λ t h. tagged tag 7 bytes x t (freeze_takes bytes x fits h)) (λ e.
    pick (eqb tag 8) _ _ x e (λ t h. tagged tag 8 bytes x t (begin_takes bytes x fits h)) (λ e.
    pick (eqb tag 9) _ _ x e (λ t h. tagged tag 9 bytes x t (post_takes bytes x fits h)) (λ e.
    pick (eqb tag 10) _ _ x e (λ t h. tagged tag 10 bytes x t (versioned_takes 10 Accept (λ c v. refl) (λ c v a b. (a, b)) bytes x fits h)) (λ e.
    pick (eqb tag 11) _ _ x e (λ t h. tagged tag 11 bytes x t (versioned_takes 11 Decline (λ c v. refl) (λ c v a b. (a, b)) bytes x fits h)) (λ e.
    pick (eqb tag 12) _ _ x e (λ t h. tagged tag 12 bytes x t (numbered_takes 12 Cancel (λ n. refl) (λ n is. is) bytes x fits h)) (λ e. absurd cc))))))))))))

change_takes : (bytes : List ℕ) (x : What × List ℕ) → IsBytes bytes → change_at bytes ≡ Ok x → Reads bytes x
unfolding change_at
change_takes [] x fits e = absurd cc
change_takes (tag ∷ bytes) x fits e = fields_take tag bytes x (IsBytes-rest tag bytes fits) e

change_again : (what : What) (rest : List ℕ) → AreFields what → change_at (fields_spelling what ++ rest) ≡ Ok (what, rest)
unfolding change_at
change_again (Trade seller buyer product amount day) rest is = trade_again seller buyer product amount day rest is
change_again (Affirm trade) rest is = numbered_again Affirm trade rest is
change_again (End trade) rest is = numbered_again End trade rest is
change_again (Hold trade) rest is = numbered_again Hold trade rest is
change_again (Free trade) rest is = numbered_again Free trade rest is
change_again (Tol other product side floor ceiling) rest is = tolerance_again other product side floor ceiling rest is
change_again (Freeze day) rest is = freeze_again day rest is
change_again (Begin cycle mode) rest is = begin_again cycle mode rest is
change_again (Post cycle version solutions) rest is = post_again cycle version solutions rest is
change_again (Accept cycle version) rest is = versioned_again Accept cycle version rest is.0 is.1
change_again (Decline cycle version) rest is = versioned_again Decline cycle version rest is.0 is.1
change_again (Cancel cycle) rest is = numbered_again Cancel cycle rest is
change_again (Hello name key) rest is = absurd is
change_again (Nets product) rest is = absurd is
change_again Statement rest is = absurd is
change_again (Limits product) rest is = absurd is
change_again (Row product seller buyer amount size sum) rest is = absurd is
change_again (Pot product member value size) rest is = absurd is
change_again (Fetch cycle version) rest is = absurd is
change_again (Next position) rest is = absurd is
change_again (Plan cycle) rest is = absurd is
change_again (Proof cycle) rest is = absurd is
change_again Bye rest is = absurd is
change_again (Unreadable at) rest is = absurd is

pub change_format : IsFormat change_at fields_spelling AreFields
change_format = record { takes = change_takes; again = change_again }
