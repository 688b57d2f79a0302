use Rattle.std.proofs.Common.{◌∙◌, Some, refl, sym, ap, subst, inl, inr}
use Rattle.house.specs.House.{HouseView}
use Rattle.house.proofs.CallingFacts.{nothing_of}
use Rattle.standby.specs.Ending.{SaysLines}
use Rattle.standby.specs.Following.{EndsSo, FollowsTo}
use Rattle.standby_wire.specs.Replied.{HeardView, HearingView, hearing_over, IsHearing}
use Rattle.standby_link.specs.Followed.{Streams, FollowsOver, streams_by}
use Rattle.standby_link.specs.Read.{offers_of}
use Rattle.standby_link.specs.Wire.{WireStart, WireView, wire_by}
use Rattle.standby_link.proofs.FollowedFacts.{ends_parted, parted, followed}
use Rattle.standby_link.proofs.WireFacts.{first_wire}
use Rattle.standby_link.proofs.following.follow.Goals as goal

pub returns-in-Some-clause-follows : goal.returns-in-Some-clause-follows
returns-in-Some-clause-follows g c =
    let begun = c.new-hearing.ensures in
    let met = c.in-Some.ensures in
    inl (record {
      hearing = hearing_over c.greet.new.hearing (g.S.Source.flow c.greet.new.source) (g.S.Source.faults c.greet.new.source);
      fresh = record { first = met.same.0 ∙ begun.first.0; first_faults = met.same.1 ∙ begun.first.1 };
      flow = refl;
      source_faults = refl;
      heard = met.heard begun.heard;
      greets = met.greets;
      why = met.why;
      same = refl;
    })

pub compare-requires-clause-is : goal.compare-requires-clause-is
compare-requires-clause-is g c =
    let wire = c.new-wire.ensures in
    let before = c.greet.new.source in
    let w0 : WireView = wire_by g.S.Source g.K.Sink c.new-wire.result before c.greet.new.sink in
    let heard = ap (λ (v : HeardView). hearing_over v (g.S.Source.flow before) (g.S.Source.faults before)) wire.hearing in
    first_wire w0 wire.said wire.cut wire.last (heard ∙ sym (ap (λ (s : WireStart). s.hearing) wire.start))
    (sym (ap (λ (s : WireStart). s.taken) wire.start)) (sym (ap (λ (s : WireStart). s.sink_faults) wire.start))
    (subst IsHearing (sym heard) (c.in-None.ensures.heard c.new-hearing.ensures.heard))

pub returns-in-Some-compare-clause-follows : goal.returns-in-Some-compare-clause-follows
returns-in-Some-compare-clause-follows g c =
    let begun = c.new-hearing.ensures in
    let met = c.in-None.ensures in
    let wire = c.new-wire.ensures in
    let before = c.greet.new.source in
    let to = c.greet.new.sink in
    let first : Streams = streams_by g.S.Source g.K.Sink c.args.source.now c.args.sink.now in
    let now : Streams = streams_by g.S.Source g.K.Sink c.compare.new.source c.compare.new.sink in
    let hearing : HearingView = hearing_over c.greet.new.hearing (g.S.Source.flow before) (g.S.Source.faults before) in
    let w0 : WireView = wire_by g.S.Source g.K.Sink c.new-wire.result before to in
    let w1 : WireView = wire_by g.S.Source g.K.Sink c.compare.new.wire c.compare.new.source c.compare.new.sink in
    let heard = ap (λ (v : HeardView). hearing_over v (g.S.Source.flow before) (g.S.Source.faults before)) wire.hearing in
    let house : HouseView = c.args.house.now in
    let ended = parted c.args.login first w0 hearing (g.K.Sink.taken to) (g.K.Sink.faults to) wire.start
    (record { first = met.same.0 ∙ begun.first.0; first_faults = met.same.1 ∙ begun.first.1 }) met.why met.greets met.never_falls wire.cut wire.said heard
    house (nothing_of house.kept c.requires.runs) c.length-length.ensures.keeps w1 c.in-Some-compare.end c.in-Some-compare.ensures.compares in
    subst (λ (v : HouseView). FollowsOver c.args.login first now house v c.in-Some-compare.end) (sym c.in-Some-compare.ensures.same) (inr (inl ended))

pub returns-in-Some-compare-clause-ends : goal.returns-in-Some-compare-clause-ends
returns-in-Some-compare-clause-ends g c =
    let goes = c.in-Some-compare.ensures.compares in
    let w0 : WireView = wire_by g.S.Source g.K.Sink c.new-wire.result c.greet.new.source c.greet.new.sink in
    let w1 : WireView = wire_by g.S.Source g.K.Sink c.compare.new.wire c.compare.new.source c.compare.new.sink in
    let house : HouseView = c.args.house.now in
    subst (λ (v : HouseView). EndsSo house v (Some c.in-Some-compare.end)) (sym c.in-Some-compare.ensures.same)
    (ends_parted w0.start.login house w1.hearing goes.said goes.replied c.in-Some-compare.end goes.holds (nothing_of house.kept c.requires.runs))

pub returns-clause-follows : goal.returns-clause-follows
returns-clause-follows g c =
    let begun = c.new-hearing.ensures in
    let met = c.in-None.ensures in
    let wire = c.new-wire.ensures in
    let over = c.follow_over.ensures in
    let goes = c.in-None-compare.ensures.compares in
    let before = c.greet.new.source in
    let to = c.greet.new.sink in
    let first : Streams = streams_by g.S.Source g.K.Sink c.args.source.now c.args.sink.now in
    let hearing : HearingView = hearing_over c.greet.new.hearing (g.S.Source.flow before) (g.S.Source.faults before) in
    let w0 : WireView = wire_by g.S.Source g.K.Sink c.new-wire.result before to in
    let w1 : WireView = wire_by g.S.Source g.K.Sink c.compare.new.wire c.compare.new.source c.compare.new.sink in
    let w : WireView = wire_by g.S.Source g.K.Sink c.follow_over.new.peer c.follow_over.new.source c.follow_over.new.sink in
    let heard = ap (λ (v : HeardView). hearing_over v (g.S.Source.flow before) (g.S.Source.faults before)) wire.hearing in
    let house : HouseView = c.args.house.now in
    let new : HouseView = c.follow_over.new.house in
    let same = c.in-None-compare.ensures.same in
    inr (inr (followed c.args.login first w0 hearing (g.K.Sink.taken to) (g.K.Sink.faults to) wire.start
    (record { first = met.same.0 ∙ begun.first.0; first_faults = met.same.1 ∙ begun.first.1 }) met.why met.greets met.never_falls wire.cut wire.said heard
    house (nothing_of house.kept c.requires.runs) c.length-length.ensures.keeps w1 new w c.follow_over.result goes (over.holds goes.is) over.stays over.cuts over.short
    (subst (λ (v : HouseView). FollowsTo v new w1.said w.said (offers_of w1.hearing.replied) (offers_of w.hearing.replied) (Some c.follow_over.result)) same over.follows)
    (subst (λ (v : HouseView). SaysLines v new w1.said w.said (Some c.follow_over.result)) same over.lines)
    over.because))
