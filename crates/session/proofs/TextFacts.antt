-- The text of a reply, row by row.
use Rattle.std.proofs.Common.{◌≡◌, ℕ, ◌+◌, ◌<◌, ◌≤◌, List, [], ◌∷◌, ◌++◌, length, take, drop, slice_get, Option, Some, refl, sym, ap, subst, ◌∙◌, append_assoc}
use Rattle.std.proofs.lemmas.List.{append-nil, take_all, take_more, take-append-drop}
use Rattle.std.proofs.lemmas.Option.{slice_get_within, get_or_from_slice_get}
use Rattle.outside.specs.Flow.{TakesFront}
use Rattle.command_types.specs.declared.answer.Reply.{Reply}
use Rattle.command_types.specs.Roster.{Rows}
use Rattle.command_types.specs.Text.{head_text}
use Rattle.command_types.specs.Details.{lines_text, details_text, raw_text, reply_text}
use Rattle.statements.specs.declared.details.DetailRow.{DetailRow}
use Rattle.statements.specs.Details.{row_text, details_of}
use Rattle.statements.proofs.DetailFacts.{details_by_row}
use Rattle.session.proofs.PendingFacts.{front_more}

lines_both : {T : Type 0} (line : T → List ℕ) (xs ys : List T) → lines_text line (xs ++ ys) ≡ lines_text line xs ++ lines_text line ys
lines_both line [] ys = refl
lines_both line (x ∷ xs) ys = ap (λ text. line x ++ text) (lines_both line xs ys) ∙ sym (append_assoc (line x) (lines_text line xs) (lines_text line ys))

-- the head line and the lines of the first rows
abbrev pub text_before : Rows → Reply → ℕ → List ℕ
text_before rows reply n = head_text rows reply.at reply.answer ++ lines_text (row_text rows) (take n (details_of reply.answer))

-- one row more
pub text_more : (rows : Rows) (reply : Reply) (n : ℕ) (row : DetailRow) → slice_get (details_of reply.answer) n ≡ Some row → text_before rows reply n ++ row_text rows row ≡ text_before rows reply (n + 1)
text_more rows reply n row is =
    let details = details_of reply.answer in
    let within : n < length details = slice_get_within details n row is in
    let next : take (n + 1) details ≡ take n details ++ row ∷ [] = take_more details n row within ∙ ap (λ x. take n details ++ x ∷ []) (get_or_from_slice_get details n row row is) in
    append_assoc (head_text rows reply.at reply.answer) (lines_text (row_text rows) (take n details)) (row_text rows row)
    ∙ ap (λ text. head_text rows reply.at reply.answer ++ (lines_text (row_text rows) (take n details) ++ text)) (sym (append-nil (row_text rows row)))
    ∙ ap (λ text. head_text rows reply.at reply.answer ++ text) (sym (ap (lines_text (row_text rows)) next ∙ lines_both (row_text rows) (take n details) (row ∷ [])))

-- the head line and all detail lines; behind them come the bytes of an entry, if the reply tells one
abbrev pub lines_of_reply : Rows → Reply → List ℕ
lines_of_reply rows reply = head_text rows reply.at reply.answer ++ details_text rows reply.answer

-- the text before a place and the rest of it
text_split : (rows : Rows) (reply : Reply) (n : ℕ) → text_before rows reply n ++ lines_text (row_text rows) (drop n (details_of reply.answer)) ≡ lines_of_reply rows reply
text_split rows reply n =
    let details = details_of reply.answer in
    append_assoc (head_text rows reply.at reply.answer) (lines_text (row_text rows) (take n details)) (lines_text (row_text rows) (drop n details))
    ∙ ap (λ text. head_text rows reply.at reply.answer ++ text)
    (sym (lines_both (row_text rows) (take n details) (drop n details)) ∙ ap (lines_text (row_text rows)) (take-append-drop n details) ∙ sym (details_by_row rows reply.answer))

-- a front of the text before a place is a front of the whole
pub front_of_reply : (begun after : Option (List ℕ)) (waited : List ℕ) (rows : Rows) (reply : Reply) (n : ℕ) → TakesFront begun after (waited ++ text_before rows reply n) → TakesFront begun after (waited ++ reply_text rows reply)
front_of_reply begun after waited rows reply n front =
    let rest = lines_text (row_text rows) (drop n (details_of reply.answer)) ++ raw_text reply.answer in
    let P : List ℕ → Type 0 = λ text. TakesFront begun after text in
    let whole : text_before rows reply n ++ rest ≡ reply_text rows reply =
    sym (append_assoc (text_before rows reply n) (lines_text (row_text rows) (drop n (details_of reply.answer))) (raw_text reply.answer))
    ∙ ap (λ text. text ++ raw_text reply.answer) (text_split rows reply n) in
    subst P (append_assoc waited (text_before rows reply n) rest ∙ ap (λ text. waited ++ text) whole) (front_more begun after (waited ++ text_before rows reply n) rest front)

-- behind the last row all lines are there
pub text_whole : (rows : Rows) (reply : Reply) (n : ℕ) → length (details_of reply.answer) ≤ n → text_before rows reply n ≡ lines_of_reply rows reply
text_whole rows reply n past =
    ap (λ text. head_text rows reply.at reply.answer ++ text) (ap (lines_text (row_text rows)) (take_all n (details_of reply.answer) past) ∙ sym (details_by_row rows reply.answer))
