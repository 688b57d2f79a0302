-- The texts of several replies, reply by reply.
use Rattle.std.proofs.Common.{◌≡◌, ℕ, ◌+◌, ◌<◌, All, List, [], ◌∷◌, ◌++◌, length, take, drop, get_or, Option, refl, sym, subst, ap, ◌∙◌, append_assoc}
use Rattle.std.proofs.lemmas.List.{append-nil, take_more, take-append-drop}
use Rattle.std.proofs.lemmas.List.Elements.{All-get_or}
use Rattle.outside.specs.Flow.{TakesFront}
use Rattle.command_types.specs.declared.answer.Reply.{Reply}
use Rattle.command_types.specs.Details.{reply_text}
use Rattle.command_types.specs.Roster.{Rows}
use Rattle.session.specs.Given.{IsGiven}
use Rattle.session.specs.Runs.{replies_text}
use Rattle.session.specs.Serving.{Sight}
use Rattle.session.proofs.PendingFacts.{front_more}

texts_both : (rows : Rows) (xs ys : List Reply) → replies_text rows (xs ++ ys) ≡ replies_text rows xs ++ replies_text rows ys
texts_both rows [] ys = refl
texts_both rows (x ∷ xs) ys = ap (λ t. reply_text rows x ++ t) (texts_both rows xs ys) ∙ sym (append_assoc (reply_text rows x) (replies_text rows xs) (replies_text rows ys))

-- one reply more
pub replies_more : (rows : Rows) (replies : List Reply) (i : ℕ) (reply : Reply) → reply ≡ get_or replies i reply → i < length replies → replies_text rows (take i replies) ++ reply_text rows reply ≡ replies_text rows (take (i + 1) replies)
replies_more rows replies i reply is within =
    let next : take (i + 1) replies ≡ take i replies ++ reply ∷ [] = take_more replies i reply within ∙ ap (λ r. take i replies ++ r ∷ []) (sym is) in
    ap (λ t. replies_text rows (take i replies) ++ t) (sym (append-nil (reply_text rows reply))) ∙ sym (texts_both rows (take i replies) (reply ∷ [])) ∙ ap (replies_text rows) (sym next)

-- a front of the texts up to a reply is a front of all
pub replies_front : (begun after : Option (List ℕ)) (waited : List ℕ) (rows : Rows) (replies : List Reply) (i : ℕ) (reply : Reply) → reply ≡ get_or replies i reply → i < length replies →
    TakesFront begun after (waited ++ (replies_text rows (take i replies) ++ reply_text rows reply)) → TakesFront begun after (waited ++ replies_text rows replies)
replies_front begun after waited rows replies i reply is within front =
    let rest = replies_text rows (drop (i + 1) replies) in
    let upto = replies_text rows (take i replies) ++ reply_text rows reply in
    let P : List ℕ → Type 0 = λ text. TakesFront begun after text in
    let whole : upto ++ rest ≡ replies_text rows replies =
    ap (λ t. t ++ rest) (replies_more rows replies i reply is within) ∙ sym (texts_both rows (take (i + 1) replies) (drop (i + 1) replies)) ∙ ap (replies_text rows) (take-append-drop (i + 1) replies) in
    subst P (append_assoc waited upto rest ∙ ap (λ t. waited ++ t) whole) (front_more begun after (waited ++ upto) rest front)

-- one of them may be written where all may
pub given_at : (sight : Sight) (replies : List Reply) (i : ℕ) (reply : Reply) → reply ≡ get_or replies i reply → i < length replies → All (λ r. IsGiven sight r) replies → IsGiven sight reply
given_at sight replies i reply is within all = subst (λ r. IsGiven sight r) (sym is) (All-get_or (λ r. IsGiven sight r) replies i reply within all)
