-- The texts of replies, put together of their parts.
use Rattle.std.proofs.Common.{◌≡◌, ℕ, List, [], ◌++◌, codes, decimal, append_assoc, ap, sym, refl, ◌∙◌}
use Rattle.command_types.specs.declared.answer.Answer.{Answer}
use Rattle.command_types.specs.declared.answer.Answer.TheVariants.{No}
use Rattle.command_types.specs.declared.refusal.Refusal.{Refusal}
use Rattle.command_types.specs.Roster.{Rows}
use Rattle.command_types.specs.Text.{answer_text, head_text, refusal_text}

-- a refusal that is known to be this one has this one's text
pub told : (rows : Rows) (before text : List ℕ) (given refusal : Refusal) → given ≡ refusal → text ≡ before ++ refusal_text rows refusal → text ≡ before ++ refusal_text rows given
told rows before text given refusal is e = e ∙ ap (λ r. before ++ refusal_text rows r) (sym is)

-- a text put behind another
pub joined : (before first second x y : List ℕ) → first ≡ before ++ x → second ≡ first ++ y → second ≡ before ++ (x ++ y)
joined before first second x y e f = f ∙ ap (λ t. t ++ y) e ∙ append_assoc before x y

-- the head line of an accepted command
ok_text : (rows : Rows) (at : ℕ) (answer : Answer) → ((refusal : Refusal) → answer ≡ No refusal → ⊥) → head_text rows at answer ≡ codes "ok " ++ decimal at ++ answer_text rows answer ++ codes "\n"
ok_text rows at (No refusal) accepted = absurd (accepted refusal refl)
ok_text rows at answer accepted = refl

pub ok_head : (rows : Rows) (at : ℕ) (answer : Answer) (before first second third : List ℕ) → ((refusal : Refusal) → answer ≡ No refusal → ⊥) → before ≡ [] →
    first ≡ before ++ codes "ok " ++ decimal at → second ≡ first ++ answer_text rows answer → third ≡ second ++ codes "\n" → third ≡ head_text rows at answer
ok_head rows at answer before first second third accepted e0 e1 e2 e3 =
    e3 ∙ ap (λ t. t ++ codes "\n") (e2 ∙ ap (λ t. t ++ answer_text rows answer) (e1 ∙ ap (λ t. t ++ codes "ok " ++ decimal at) e0))
    ∙ sym (ok_text rows at answer accepted)
