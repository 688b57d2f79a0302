-- The command of a line of a run, and the run with it.
use Rattle.std.proofs.Common.{◌≡◌, ℕ, ◌+◌, ◌-◌, ◌<◌, ◌≤◌, Bool, true, List, [], ◌∷◌, ◌++◌, length, take, drop, get_or, Option, Result, sym, subst, ap, ◌∙◌, append_assoc, arith}
use Rattle.std.proofs.lemmas.List.{length-take, length-drop, take_all, take_more, take-append-drop, get_or-drop}
use Rattle.std.proofs.Math.Seq.{take-append-add}
use Rattle.command_types.specs.declared.line.Line.{Line}
use Rattle.command_types.specs.declared.ask.Entry.{Entry}
use Rattle.command_types.specs.declared.ask.What.{What}
use Rattle.command_types.specs.Grammar.{line_within}
use Rattle.command_types.specs.Lines.{ended_line}
use Rattle.command_types.specs.Roster.{Rows}
use Rattle.command_types.specs.Session.{Speaker, IsTime, what_or_fault}
use Rattle.command_text.specs.declared.bad_line.BadLine.{BadLine}
use Rattle.session.specs.Asks.{read_within, line_read}
use Rattle.session.specs.Runs.{may_run, HasNoFeed, IsCommandOf, IsRun}
use Rattle.session.proofs.ReplyFacts.{is_read}
use Rattle.session.proofs.RunFacts.{run_push}

-- the command of a line that may stand in a run
pub command_is : (clock : ℕ → Bool) (rows : Rows) (seat : ℕ) (speaker : Speaker) (line ended : List ℕ) (read : Result Line BadLine) (what : What) (by : Option (List ℕ)) (number moment : ℕ) → ended ≡ ended_line line → read ≡ read_within ended →
    may_run (line_read read) ≡ true → number ≡ seat → IsTime clock moment → by ≡ speaker.party → what ≡ what_or_fault rows speaker.draft (line_read read) →
    IsCommandOf clock rows seat speaker line (record { seat = number; ask = record { by = by; what = what; moment = moment } })
command_is clock rows seat speaker line ended read what by number moment same is runs seats time party whats =
    let said : line_read read ≡ line_within (ended_line line) = is_read ended read is ∙ ap line_within same in
    let commands : what ≡ what_or_fault rows speaker.draft (line_within (ended_line line)) = whats ∙ ap (what_or_fault rows speaker.draft) said in
    record {
      runs = sym (ap may_run said) ∙ runs;
      number = seats;
      time = time;
      same = λ i. record { by = party i; what = commands i; moment = moment };
    }

-- the bytes up to a place, and as many more
pub take_both : (piece : List ℕ) (end size : ℕ) → end ≤ length piece → take (end + size) piece ≡ take end piece ++ take size (drop end piece)
take_both piece end size within =
    let count : length (take end piece) ≡ end = omega (arith, length-take end piece, within) in
    ap (λ n. take (n + size) piece) (sym count)
    ∙ ap (take (length (take end piece) + size)) (sym (take-append-drop end piece))
    ∙ take-append-add (take end piece) (drop end piece) size

-- the bytes up to a line feed, with the line before it
piece_with : (piece : List ℕ) (end size : ℕ) → end + size < length piece → get_or piece (end + size) 0 ≡ 10 → take (end + size + 1) piece ≡ take end piece ++ (take size (drop end piece) ++ 10 ∷ [])
piece_with piece end size within feed =
    take_more piece (end + size) 0 within ∙ ap (λ b. take (end + size) piece ++ b ∷ []) feed
    ∙ ap (λ t. t ++ 10 ∷ []) (take_both piece end size (omega (arith, within))) ∙ append_assoc (take end piece) (take size (drop end piece)) (10 ∷ [])

-- what is behind a place of a piece
pub part_is : (piece : List ℕ) (at : ℕ) → take (length piece - at) (drop at piece) ≡ drop at piece
part_is piece at = take_all (length piece - at) (drop at piece) (omega (arith, length-drop at piece))

pub part_size : (piece : List ℕ) (at : ℕ) → length (take (length piece - at) (drop at piece)) ≡ length piece - at
part_size piece at = let same : length (take (length piece - at) (drop at piece)) ≡ length (drop at piece) = ap length (part_is piece at) in omega (arith, same, length-drop at piece)

-- a line feed behind a place is within the piece
pub feed_within : (piece : List ℕ) (end size : ℕ) → size < length (take (length piece - end) (drop end piece)) → end + size < length piece
feed_within piece end size found = let same : length (take (length piece - end) (drop end piece)) ≡ length (drop end piece) = ap length (part_is piece end) in omega (arith, found, same, length-drop end piece)

-- one line more of a piece
pub piece_push : (clock : ℕ → Bool) (rows : Rows) (seat : ℕ) (speaker : Speaker) (piece part : List ℕ) (end size : ℕ) (commands : List Entry) (command : Entry) → IsRun clock rows seat speaker (take end piece) commands →
    part ≡ drop end piece → end + size < length piece → HasNoFeed (take size part) → get_or part size 0 ≡ 10 → IsCommandOf clock rows seat speaker (take (end + size - end) (drop end piece)) command →
    IsRun clock rows seat speaker (take (end + (size + 1)) piece) (commands ++ command ∷ [])
piece_push clock rows seat speaker piece part end size commands command is same within none feed of =
    let line = take size (drop end piece) in
    let count : end + size - end ≡ size = omega arith in
    let longer : end + (size + 1) ≡ end + size + 1 = omega arith in
    let feeds : get_or (drop end piece) size 0 ≡ 10 = subst (λ p. get_or p size 0 ≡ 10) same feed in
    run_push clock rows seat speaker (take end piece) line (take (end + (size + 1)) piece) commands command is
    (subst (λ p. HasNoFeed (take size p)) same none) (subst (λ n. IsCommandOf clock rows seat speaker (take n (drop end piece)) command) count of)
    (ap (λ n. take n piece) longer ∙ piece_with piece end size within (sym (get_or-drop end piece size 0) ∙ feeds))
