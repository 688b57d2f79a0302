use Rattle.std.proofs.Common.{◌≡◌, ◌∙◌, ℕ, true, false, None, IfNone, refl, sym, subst, rules}
use Rattle.command_types.specs.declared.spelling.Spelling.TheVariants.{Second}
use Rattle.recovery.specs.Bodies.{turns}
use Rattle.recovery.specs.Reading.{IsFirstOf, HasNone}
use Rattle.recovery.specs.declared.body.Body.{Body}
use Rattle.recovery.proofs.LoopFacts.{first_plain, first_turned, none_ahead, none_turned}
use Rattle.recovery.proofs.body.Body.next.Goals as goal

pub returns-in_err-found-clause-none : goal.returns-in_err-found-clause-none
returns-in_err-found-clause-none c = λ records ahead.
    let old : Body = c.args.self.now in
    let new : Body = record { records = c.next.new.self; spelling = old.spelling } in
    let is : c.from_residual.result ≡ None = search rules in
    subst (λ r. IfNone r (HasNone old new records)) (sym is) (none_ahead old new records (c.in_err-found.ensures.none records ahead) refl)

pub returns-then-not-turns-clause-some : goal.returns-then-not-turns-clause-some
returns-then-not-turns-clause-some c = λ records ahead.
    let old : Body = c.args.self.now in
    let new : Body = record { records = c.next.new.self; spelling = old.spelling } in
    let bytes = c.in_ok-found.found.bytes.now in
    let plain : turns old.spelling bytes ≡ false = sym c.turns.ensures ∙ c.if-not-turns.true in
    subst (λ (n : ℕ). IsFirstOf old new records (n, (old.spelling, bytes))) (sym c.in_ok-found.ensures.place)
    (first_plain old new records bytes (c.in_ok-found.ensures.some records ahead) plain refl)

pub returns-in_err-behind-clause-none : goal.returns-in_err-behind-clause-none
returns-in_err-behind-clause-none c = λ records ahead.
    let old : Body = c.args.self.now in
    let mid : Body = record { records = c.next.new.self; spelling = Second } in
    let new : Body = record { records = c.next-2.new.self; spelling = Second } in
    let bytes = c.in_ok-found.found.bytes.now in
    let turned : turns old.spelling bytes ≡ true = sym c.turns.ensures ∙ c.if-not-turns.false in
    let n = c.in_ok-found.ensures.some records ahead in
    let is : c.from_residual-in_err-behind.result ≡ None = search rules in
    subst (λ r. IfNone r (HasNone old new records)) (sym is) (none_turned old mid new records bytes n turned (c.in_err-behind.ensures.none n.others n.ahead) refl)

pub returns-clause-some : goal.returns-clause-some
returns-clause-some c = λ records ahead.
    let old : Body = c.args.self.now in
    let mid : Body = record { records = c.next.new.self; spelling = Second } in
    let new : Body = record { records = c.next-2.new.self; spelling = Second } in
    let bytes = c.in_ok-found.found.bytes.now in
    let found = c.in_ok-behind.behind.bytes.now in
    let turned : turns old.spelling bytes ≡ true = sym c.turns.ensures ∙ c.if-not-turns.false in
    let n = c.in_ok-found.ensures.some records ahead in
    subst (λ (k : ℕ). IsFirstOf old new records (k, (Second, found))) (sym c.in_ok-behind.ensures.place)
    (first_turned old mid new records bytes found n turned (c.in_ok-behind.ensures.some n.others n.ahead) refl)
