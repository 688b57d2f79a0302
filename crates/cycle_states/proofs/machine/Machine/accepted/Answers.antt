use Rattle.std.proofs.Common.{◌≡◌, ◌∙◌, [], IfOk, List, ℕ, None, Option, unwrap_or, ap, sym, subst}
use Rattle.command_types.specs.declared.answer.Answer.{Answer}
use Rattle.command_types.specs.Machine.{first_of, party_answer, refusals}
use Rattle.cycle_states.proofs.EffectFacts.{party_told}
use Rattle.cycle_states.proofs.PartyFacts.{accepted_asked, caller_known, caller_named}
use Rattle.cycle_states.proofs.machine.Machine.accepted.Goals as goal

pub unreachable-requires : goal.unreachable-requires
unreachable-requires c =
    let ask = c.args.ask.now in
    accepted_asked c.args.self.now.state ask.by ask.what c.args.caller.now c.requires.caller c.in-None.is c.requires.accepted c.in_default.not-Hello c.in_default.not-Bye c.in_default.not-Unreadable

pub party_answer-requires : goal.party_answer-requires
party_answer-requires c =
    let s = c.args.self.now.state in
    let ask = c.args.ask.now in
    let named = caller_named s.roster ask.by c.args.caller.now c.in-Some.caller c.requires.caller c.in-Some.is in
    record {
      young = c.requires.young;
      caller = caller_known s.roster ask.by c.args.caller.now c.in-Some.caller c.requires.caller c.in-Some.is;
      accepted = subst (λ (by : Option (List ℕ)). first_of (refusals s by ask.what) ≡ None) named c.requires.accepted;
    }

pub returns-in-Some-clause-told : goal.returns-in-Some-clause-told
returns-in-Some-clause-told c =
    let s = c.args.self.now.state in
    let ask = c.args.ask.now in
    let named = caller_named s.roster ask.by c.args.caller.now c.in-Some.caller c.requires.caller c.in-Some.is in
    let Tells : Answer → Type 0 = λ told. IfOk c.party_answer.result (λ answer. answer ≡ told) in
    subst Tells (ap (λ (by : Option (List ℕ)). party_answer s (unwrap_or by []) ask.what) (sym named) ∙ party_told s ask.by ask.what c.in_default.not-Hello c.in_default.not-Bye c.in_default.not-Unreadable) c.party_answer.ensures.told
