use Rattle.std.proofs.Common.{◌≡◌, Err, IfErr, sym, subst, rules}
use Rattle.journal_core.specs.declared.fault.JournalFault.TheVariants.{Memory}
use Rattle.recovery.specs.Bodies.{Placed}
use Rattle.recovery.specs.Reading.{changes_ahead}
use Rattle.recovery.proofs.LoopFacts.{left_none, left_spelled, left_next}
use Rattle.recovery.proofs.reader.EntryReader.next.Goals as goal

pub returns-in_default-clause-next : goal.returns-in_default-clause-next
returns-in_default-clause-next c = λ list left.
    let body = c.args.self.now.body in
    left_none (changes_ahead body left.0) list (c.in_default.ensures.none left.0 left.1).0 left.2

pub returns-in_err-item-clause-fault : goal.returns-in_err-item-clause-fault
returns-in_err-item-clause-fault c = λ list left.
    let body = c.args.self.now.body in
    let found : Placed = (c.in-Some.found.at, (c.next.new.self.spelling, c.in-Some.found.bytes.now)) in
    let fault = c.in_err-item.field-0.0 in
    let is : c.from_residual.result ≡ Err fault = search rules in
    subst (λ r. IfErr r (λ e. e ≡ Memory)) (sym is)
    (left_spelled body c.next.new.self left.0 found list fault (c.in-Some.ensures.some left.0 left.1) left.2 c.in_err-item.ensures.fault)

pub returns-clause-next : goal.returns-clause-next
returns-clause-next c = λ list left.
    let body = c.args.self.now.body in
    let found : Placed = (c.in-Some.found.at, (c.next.new.self.spelling, c.in-Some.found.bytes.now)) in
    left_next body c.next.new.self left.0 found list c.in_ok-item.item (c.in-Some.ensures.some left.0 left.1) left.2 c.in_ok-item.ensures.found
