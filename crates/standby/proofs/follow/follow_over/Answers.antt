use Rattle.house.proofs.CallingFacts.{nothing_of}
use Rattle.std.proofs.Common.{Some, refl, ap, ◌∙◌}
use Rattle.standby.specs.Ending.{is_cut_by}
use Rattle.standby.proofs.EndFacts.{lines_first, lines_on}
use Rattle.standby.proofs.FollowFacts.{follows_start}
use Rattle.standby.proofs.TurnFacts.{goes_to, ends_later}
use Rattle.standby.proofs.follow.follow_over.Goals as goal

pub loop-end-init : goal.loop-end-init
loop-end-init g c =
    let runs = nothing_of c.args.house.now.kept c.requires.runs in
    let f = follows_start c.args.house.now _ _ c.length-length.ensures.keeps runs in record {
      runs = runs;
      lines = lines_first c.args.house.now _;
      cut = refl;
      start = refl;
      holds = λ h. h;
      follows = record { follows = f.0; whole = λ is. f.1 };
    }

pub loop-end-preserved : goal.loop-end-preserved
loop-end-preserved g c = record {
  runs = c.in-None.ensures.goes_on.0;
  lines = lines_on c.args.house.now c.loop-end.house c.turn.new.house _ _ _ _ c.loop-end.invariant.lines c.in-None.ensures.lines;
  cut = c.in-None.ensures.cuts ∙ c.loop-end.invariant.cut;
  start = c.turn.ensures.stays ∙ c.loop-end.invariant.start;
  holds = λ h. c.turn.ensures.holds (c.loop-end.invariant.holds h);
  follows = goes_to c.args.house.now c.loop-end.house c.turn.new.house _ _ _ _ _ _ _ c.loop-end.invariant.follows c.in-None.ensures.follows;
}

pub returns-in-Some : goal.returns-in-Some
returns-in-Some g c = record {
  follows = goes_to c.args.house.now c.loop-end.house c.turn.new.house _ _ _ _ _ _ _ c.loop-end.invariant.follows c.in-Some.ensures.follows;
  lines = lines_on c.args.house.now c.loop-end.house c.turn.new.house _ _ _ _ c.loop-end.invariant.lines c.in-Some.ensures.lines;
  because = c.in-Some.ensures.because;
  cuts = c.in-Some.ensures.cuts ∙ ap (λ b. is_cut_by b (Some c.in-Some.end)) c.loop-end.invariant.cut;
  stays = c.turn.ensures.stays ∙ c.loop-end.invariant.start;
  short = c.turn.ensures.short;
  holds = λ h. c.turn.ensures.holds (c.loop-end.invariant.holds h);
  ends = ends_later c.args.house.now c.loop-end.house c.turn.new.house c.in-Some.end c.loop-end.invariant.follows.follows.counted c.in-Some.ensures.ends;
}
