use Rattle.std.proofs.Common.{◌∙◌, ◌++◌, take, codes, decimal, ap, append_assoc}
use Rattle.command_text.proofs.HeadFacts.{told, joined}
use Rattle.command_text.proofs.refusal_text.put_refusal.Goals as goal

pub returns-in-Matured-clause-text : goal.returns-in-Matured-clause-text
returns-in-Matured-clause-text c =
    told c.args.roster.now _ _ _ _ c.in-Matured.is
    (joined _ _ _ _ _ c.put-end.ensures.text c.put-in-Matured.ensures.text ∙ ap (λ d. take c.args.at c.args.into.now ++ (codes "22 matured " ++ d)) c.text.ensures.text)

pub returns-in-WrongPhase-clause-text : goal.returns-in-WrongPhase-clause-text
returns-in-WrongPhase-clause-text c =
    told c.args.roster.now _ _ _ _ c.in-WrongPhase.is (joined _ _ _ _ _ c.put-end-in-WrongPhase.ensures.text c.put_phase.ensures.text)

pub returns-in-BadCertificate-clause-text : goal.returns-in-BadCertificate-clause-text
returns-in-BadCertificate-clause-text c =
    told c.args.roster.now _ _ _ _ c.in-BadCertificate.is (joined _ _ _ _ _ c.put-end-in-BadCertificate.ensures.text c.put_post.ensures.text)

pub returns-in-FloorOverCeiling-clause-text : goal.returns-in-FloorOverCeiling-clause-text
returns-in-FloorOverCeiling-clause-text c = told c.args.roster.now _ _ _ _ c.in-FloorOverCeiling.is c.put-in-FloorOverCeiling.ensures.text

pub returns-in-NotTouched-clause-text : goal.returns-in-NotTouched-clause-text
returns-in-NotTouched-clause-text c = told c.args.roster.now _ _ _ _ c.in-NotTouched.is c.put-in-NotTouched.ensures.text

pub returns-in-AlreadyAccepted-clause-text : goal.returns-in-AlreadyAccepted-clause-text
returns-in-AlreadyAccepted-clause-text c = told c.args.roster.now _ _ _ _ c.in-AlreadyAccepted.is c.put-in-AlreadyAccepted.ensures.text

pub returns-in-GrossOver-clause-text : goal.returns-in-GrossOver-clause-text
returns-in-GrossOver-clause-text c = told c.args.roster.now _ _ _ _ c.in-GrossOver.is c.put-in-GrossOver.ensures.text

pub returns-in-TradesFull-clause-text : goal.returns-in-TradesFull-clause-text
returns-in-TradesFull-clause-text c = told c.args.roster.now _ _ _ _ c.in-TradesFull.is c.put-in-TradesFull.ensures.text

pub returns-in-DraftFull-clause-text : goal.returns-in-DraftFull-clause-text
returns-in-DraftFull-clause-text c = told c.args.roster.now _ _ _ _ c.in-DraftFull.is c.put-in-DraftFull.ensures.text

pub returns-in-DiskFault-clause-text : goal.returns-in-DiskFault-clause-text
returns-in-DiskFault-clause-text c = told c.args.roster.now _ _ _ _ c.in-DiskFault.is c.put-in-DiskFault.ensures.text

pub returns-in-CycleOpen-clause-text : goal.returns-in-CycleOpen-clause-text
returns-in-CycleOpen-clause-text c =
    told c.args.roster.now _ _ _ _ c.in-CycleOpen.is
    (c.put_told-in-CycleOpen.ensures.text ∙ append_assoc (take c.args.at c.args.into.now) (codes "15 cycle-open ") (decimal c.in-CycleOpen.cycle))

pub returns-in-WrongCycle-clause-text : goal.returns-in-WrongCycle-clause-text
returns-in-WrongCycle-clause-text c =
    told c.args.roster.now _ _ _ _ c.in-WrongCycle.is
    (c.put_told-in-WrongCycle.ensures.text ∙ append_assoc (take c.args.at c.args.into.now) (codes "16 wrong-cycle ") (decimal c.in-WrongCycle.cycle))

pub returns-in-CycleBroken-clause-text : goal.returns-in-CycleBroken-clause-text
returns-in-CycleBroken-clause-text c =
    told c.args.roster.now _ _ _ _ c.in-CycleBroken.is
    (c.put_told-in-CycleBroken.ensures.text ∙ append_assoc (take c.args.at c.args.into.now) (codes "21 cycle-broken ") (decimal c.in-CycleBroken.trade))

pub returns-in-WrongVersion-clause-text : goal.returns-in-WrongVersion-clause-text
returns-in-WrongVersion-clause-text c =
    told c.args.roster.now _ _ _ _ c.in-WrongVersion.is
    (c.put_told-in-WrongVersion.ensures.text ∙ append_assoc (take c.args.at c.args.into.now) (codes "18 wrong-version ") (decimal c.in-WrongVersion.version))

pub returns-in-JournalFull-clause-text : goal.returns-in-JournalFull-clause-text
returns-in-JournalFull-clause-text c =
    told c.args.roster.now _ _ _ _ c.in-JournalFull.is
    (c.put_told-in-JournalFull.ensures.text ∙ append_assoc (take c.args.at c.args.into.now) (codes "25 journal-full ") (decimal c.in-JournalFull.size))
