use Rattle.std.proofs.Common.{is_none, refl, ap, ◌∙◌, inl, inr}
use Rattle.std.proofs.lemmas.Bool.{false≢true}
use Rattle.standby.specs.declared.follow.FollowEnd.TheVariants.{Caught}
use Rattle.standby.proofs.EndFacts.{not_asked_lines, asked_once, asked_and_bye, asked_no_bye, lines_taken, because_unsaid, because_untaken, because_other, came_here}
use Rattle.standby.proofs.TurnFacts.{asked_and_heard, not_asked, asked_and_left, asked_and_not_left, asked_and_took, offers_few, ends_so, goes_on}
use Rattle.standby.proofs.follow.turn.Goals as goal

pub returns-in-Some-clause-follows : goal.returns-in-Some-clause-follows
returns-in-Some-clause-follows g c =
    (not_asked c.args.house.now c.length-position.ensures.keeps c.requires.runs _ _ _ _ c.length-position.result c.in-Some.end c.length-position.ensures.length c.in-Some.ensures.says c.in-Some.ensures.why c.say.ensures.hears).0

pub returns-in-Some-clause-ends : goal.returns-in-Some-clause-ends
returns-in-Some-clause-ends g c =
    (not_asked c.args.house.now c.length-position.ensures.keeps c.requires.runs _ _ _ _ c.length-position.result c.in-Some.end c.length-position.ensures.length c.in-Some.ensures.says c.in-Some.ensures.why c.say.ensures.hears).1

pub returns-then-at-position-clause-follows : goal.returns-then-at-position-clause-follows
returns-then-at-position-clause-follows g c =
    let f = asked_and_heard c.args.house.now c.length-position.ensures.keeps c.requires.runs _ _ _ _ _ _ _ _ (offers_few c.hear.result) c.length-position.ensures.length c.in-None.ensures.says c.say.ensures.hears c.hear.ensures.says c.hear.ensures.hears in
    record { follows = f.0; whole = λ is. absurd (false≢true is) }

pub returns-in-Err-clause-follows : goal.returns-in-Err-clause-follows
returns-in-Err-clause-follows g c =
    let f = asked_and_heard c.args.house.now c.length-position.ensures.keeps c.requires.runs _ _ _ _ _ _ _ _ (offers_few c.hear.result) c.length-position.ensures.length c.in-None.ensures.says c.say.ensures.hears c.hear.ensures.says c.hear.ensures.hears in
    record { follows = f.0; whole = λ is. absurd (false≢true is) }

pub returns-in-Ok-Refused-clause-follows : goal.returns-in-Ok-Refused-clause-follows
returns-in-Ok-Refused-clause-follows g c =
    let f = asked_and_heard c.args.house.now c.length-position.ensures.keeps c.requires.runs _ _ _ _ _ _ _ _ (offers_few c.hear.result) c.length-position.ensures.length c.in-None.ensures.says c.say.ensures.hears c.hear.ensures.says c.hear.ensures.hears in
    record { follows = f.0; whole = λ is. absurd (false≢true is) }

pub returns-in-Ok-Broken-clause-follows : goal.returns-in-Ok-Broken-clause-follows
returns-in-Ok-Broken-clause-follows g c =
    let f = asked_and_heard c.args.house.now c.length-position.ensures.keeps c.requires.runs _ _ _ _ _ _ _ _ (offers_few c.hear.result) c.length-position.ensures.length c.in-None.ensures.says c.say.ensures.hears c.hear.ensures.says c.hear.ensures.hears in
    record { follows = f.0; whole = λ is. absurd (false≢true is) }

pub returns-in-Ok-Memory-clause-follows : goal.returns-in-Ok-Memory-clause-follows
returns-in-Ok-Memory-clause-follows g c =
    let f = asked_and_heard c.args.house.now c.length-position.ensures.keeps c.requires.runs _ _ _ _ _ _ _ _ (offers_few c.hear.result) c.length-position.ensures.length c.in-None.ensures.says c.say.ensures.hears c.hear.ensures.says c.hear.ensures.hears in
    record { follows = f.0; whole = λ is. absurd (false≢true is) }

pub returns-in-None-say-clause-follows : goal.returns-in-None-say-clause-follows
returns-in-None-say-clause-follows g c =
    let hears = rw c.in-Ok-Nothing.field-0-is at c.in-Ok-Nothing.ensures.hears in
    asked_and_left c.args.house.now c.length-position.ensures.keeps c.requires.runs _ _ _ _ _ _ _ _ _ _ c.length-position.ensures.length c.in-None.ensures.says c.say.ensures.hears c.hear.ensures.says hears
    c.in-None-say.ensures.says c.say-in-Ok-Nothing.ensures.hears

pub returns-in-Some-say-clause-follows : goal.returns-in-Some-say-clause-follows
returns-in-Some-say-clause-follows g c =
    let hears = rw c.in-Ok-Nothing.field-0-is at c.in-Ok-Nothing.ensures.hears in
    (asked_and_not_left c.args.house.now c.length-position.ensures.keeps c.requires.runs _ _ _ _ _ _ _ _ _ c.in-Some-say.end c.length-position.ensures.length c.in-None.ensures.says c.say.ensures.hears c.hear.ensures.says hears
    c.in-Some-say.ensures.says c.in-Some-say.ensures.why c.say-in-Ok-Nothing.ensures.hears).0

pub returns-in-Some-say-clause-ends : goal.returns-in-Some-say-clause-ends
returns-in-Some-say-clause-ends g c =
    let hears = rw c.in-Ok-Nothing.field-0-is at c.in-Ok-Nothing.ensures.hears in
    (asked_and_not_left c.args.house.now c.length-position.ensures.keeps c.requires.runs _ _ _ _ _ _ _ _ _ c.in-Some-say.end c.length-position.ensures.length c.in-None.ensures.says c.say.ensures.hears c.hear.ensures.says hears
    c.in-Some-say.ensures.says c.in-Some-say.ensures.why c.say-in-Ok-Nothing.ensures.hears).1

pub returns-else-at-position-clause-follows : goal.returns-else-at-position-clause-follows
returns-else-at-position-clause-follows g c =
    let hears = rw c.in-Ok-Entry.field-0-is at c.in-Ok-Entry.ensures.hears in
    asked_and_took c.args.house.now c.length-position.ensures.keeps c.requires.runs c.take.new.house _ _ _ _ _ _ _ c.in-Ok-Entry.at c.in-Ok-Entry.entry c.take.result c.length-position.ensures.length c.in-None.ensures.says c.say.ensures.hears c.hear.ensures.says hears
    c.if-at-position.false c.take.ensures.takes

pub returns-else-at-position-clause-ends : goal.returns-else-at-position-clause-ends
returns-else-at-position-clause-ends g c = ends_so c.args.house.now c.take.new.house c.in-Ok-Entry.entry c.take.result c.length-position.ensures.keeps c.requires.runs c.take.ensures.takes

-- ---- the lines that were said

pub returns-in-Some-clause-lines : goal.returns-in-Some-clause-lines
returns-in-Some-clause-lines g c =
    not_asked_lines c.args.house.now _ _ c.length-position.result c.length-position.ensures.length c.in-Some.end c.in-Some.ensures.says c.in-Some.ensures.why

pub returns-then-at-position-clause-lines : goal.returns-then-at-position-clause-lines
returns-then-at-position-clause-lines g c =
    asked_once c.args.house.now _ _ c.length-position.result c.length-position.ensures.length c.in-None.ensures.says c.args.house.now _ _ c.hear.ensures.says refl refl

pub returns-in-Err-clause-lines : goal.returns-in-Err-clause-lines
returns-in-Err-clause-lines g c =
    asked_once c.args.house.now _ _ c.length-position.result c.length-position.ensures.length c.in-None.ensures.says c.args.house.now _ _ c.hear.ensures.says refl refl

pub returns-in-Ok-Refused-clause-lines : goal.returns-in-Ok-Refused-clause-lines
returns-in-Ok-Refused-clause-lines g c =
    asked_once c.args.house.now _ _ c.length-position.result c.length-position.ensures.length c.in-None.ensures.says c.args.house.now _ _ c.hear.ensures.says refl refl

pub returns-in-Ok-Broken-clause-lines : goal.returns-in-Ok-Broken-clause-lines
returns-in-Ok-Broken-clause-lines g c =
    asked_once c.args.house.now _ _ c.length-position.result c.length-position.ensures.length c.in-None.ensures.says c.args.house.now _ _ c.hear.ensures.says refl refl

pub returns-in-Ok-Memory-clause-lines : goal.returns-in-Ok-Memory-clause-lines
returns-in-Ok-Memory-clause-lines g c =
    asked_once c.args.house.now _ _ c.length-position.result c.length-position.ensures.length c.in-None.ensures.says c.args.house.now _ _ c.hear.ensures.says refl (inr refl)

pub returns-in-None-say-clause-lines : goal.returns-in-None-say-clause-lines
returns-in-None-say-clause-lines g c =
    asked_and_bye c.args.house.now _ _ c.length-position.result c.length-position.ensures.length c.in-None.ensures.says _ _ Caught c.hear.ensures.says c.in-None-say.ensures.says refl

pub returns-in-Some-say-clause-lines : goal.returns-in-Some-say-clause-lines
returns-in-Some-say-clause-lines g c =
    asked_no_bye c.args.house.now _ _ c.length-position.result c.length-position.ensures.length c.in-None.ensures.says _ _ c.in-Some-say.end c.hear.ensures.says
    c.in-Some-say.ensures.says c.in-Some-say.ensures.why

pub returns-else-at-position-clause-lines : goal.returns-else-at-position-clause-lines
returns-else-at-position-clause-lines g c =
    lines_taken c.args.house.now c.take.new.house c.length-position.ensures.keeps c.requires.runs c.length-position.result c.in-Ok-Entry.due c.in-Ok-Entry.at c.in-Ok-Entry.entry _
    c.length-position.ensures.length c.if-at-position.false (rw c.in-Ok-Entry.field-0-is at c.in-Ok-Entry.ensures.came)
    _ _ _ c.in-None.ensures.says c.hear.ensures.says c.take.result c.take.ensures.declines
    (λ e. (goes_on c.args.house.now c.take.new.house c.in-Ok-Entry.entry c.take.result c.length-position.ensures.keeps c.requires.runs c.take.ensures.takes (ap is_none e)).1)

-- ---- why it ends

pub returns-in-Some-clause-because : goal.returns-in-Some-clause-because
returns-in-Some-clause-because g c = because_unsaid c.args.house.now _ c.in-Some.end c.in-Some.ensures.why

pub returns-in-Some-say-clause-because : goal.returns-in-Some-say-clause-because
returns-in-Some-say-clause-because g c = because_unsaid c.args.house.now _ c.in-Some-say.end c.in-Some-say.ensures.why

pub returns-in-Err-clause-because : goal.returns-in-Err-clause-because
returns-in-Err-clause-because g c = (_, came_here c.args.house.now _ _ _ c.length-position.ensures.length c.in-Err.ensures.came)

pub returns-in-Ok-Refused-clause-because : goal.returns-in-Ok-Refused-clause-because
returns-in-Ok-Refused-clause-because g c =
    came_here c.args.house.now _ _ _ c.length-position.ensures.length (rw c.in-Ok-Refused.field-0-is at c.in-Ok-Refused.ensures.came)

pub returns-in-Ok-Broken-clause-because : goal.returns-in-Ok-Broken-clause-because
returns-in-Ok-Broken-clause-because g c =
    inl (came_here c.args.house.now _ _ _ c.length-position.ensures.length (rw c.in-Ok-Broken.field-0-is at c.in-Ok-Broken.ensures.came))

pub returns-in-None-say-clause-because : goal.returns-in-None-say-clause-because
returns-in-None-say-clause-because g c =
    came_here c.args.house.now _ _ _ c.length-position.ensures.length (c.say-in-Ok-Nothing.ensures.stays.0 ∙ rw c.in-Ok-Nothing.field-0-is at c.in-Ok-Nothing.ensures.came)

pub returns-then-at-position-clause-because : goal.returns-then-at-position-clause-because
returns-then-at-position-clause-because g c =
    because_other c.args.house.now c.length-position.result c.in-Ok-Entry.due c.in-Ok-Entry.at c.in-Ok-Entry.entry _ c.length-position.ensures.length c.if-at-position.true
    (rw c.in-Ok-Entry.field-0-is at c.in-Ok-Entry.ensures.came)

pub returns-else-at-position-clause-because : goal.returns-else-at-position-clause-because
returns-else-at-position-clause-because g c =
    because_untaken c.args.house.now c.take.new.house c.length-position.ensures.keeps c.requires.runs c.length-position.result c.in-Ok-Entry.due c.in-Ok-Entry.at c.in-Ok-Entry.entry _
    c.length-position.ensures.length c.if-at-position.false (rw c.in-Ok-Entry.field-0-is at c.in-Ok-Entry.ensures.came) c.take.result c.take.ensures.declines
