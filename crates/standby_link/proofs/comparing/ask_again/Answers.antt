use Rattle.std.proofs.Common.{◌≡◌, ◌∙◌, ◌∷◌, ◌++◌, [], None, Err, refl, sym, ap, subst, inl, inr}
use Rattle.std.proofs.lemmas.List.{append-nil}
use Rattle.standby.specs.Ending.{is_cut_after, is_cut_by}
use Rattle.standby.specs.declared.peer.SayFault.{SayFault}
use Rattle.standby.specs.declared.peer.Said.TheVariants.{Next}
use Rattle.standby_wire.specs.Replied.{HearingView, noted}
use Rattle.standby_wire.specs.declared.reply.Question.{Question}
use Rattle.standby_wire.specs.declared.reply.Question.TheVariants.{Again}
use Rattle.standby_link.specs.Compared.{ComesTo}
use Rattle.standby_link.specs.Read.{IsLast}
use Rattle.standby_link.specs.Wire.{WireParts, WireView, IsWire, heard_by, wire_by}
use Rattle.standby_link.proofs.AskFacts.{came_to, uncut}
use Rattle.standby_link.proofs.WireFacts.{hears_on, heard_wire}
use Rattle.standby_link.proofs.comparing.ask_again.Goals as goal

pub returns-in-Err-Failed : goal.returns-in-Err-Failed
returns-in-Err-Failed g c =
    let told = c.in-Err-Failed.ensures in
    let is = c.in-Err-Failed.field-0-is in
    record {
      asks = record {
        said = record { house = c.args.house.now; line = Next c.args.own.position } ∷ [];
        replied = [];
        says = told.says_in_part (ap Err is);
        reads = ap (λ (p : WireParts). p.heard.replied) told.stays ∙ sym (append-nil c.args.wire.now.heard.replied);
        holds = inr (refl, refl);
        start = ap (λ (p : WireParts). p.start) told.stays;
        last = ap (λ (p : WireParts). p.last) told.stays;
        cut = told.cuts ∙ ap (λ (e : SayFault). is_cut_after {A = Unit {0}} c.args.wire.now.cut (Err e)) is;
        is = told.holds c.args.source.now c.requires.is;
      };
    }

pub returns-in-Err-Memory : goal.returns-in-Err-Memory
returns-in-Err-Memory g c =
    let told = c.in-Err-Memory.ensures in
    let is = c.in-Err-Memory.field-0-is in
    record {
      asks = record {
        said = [];
        replied = [];
        says = told.unsaid (ap Err is) ∙ sym (append-nil c.args.wire.now.said);
        reads = ap (λ (p : WireParts). p.heard.replied) told.stays ∙ sym (append-nil c.args.wire.now.heard.replied);
        holds = inl (refl, refl, refl);
        start = ap (λ (p : WireParts). p.start) told.stays;
        last = ap (λ (p : WireParts). p.last) told.stays;
        cut = told.cuts ∙ ap (λ (e : SayFault). is_cut_after {A = Unit {0}} c.args.wire.now.cut (Err e)) is;
        is = told.holds c.args.source.now c.requires.is;
      };
    }

pub returns : goal.returns
returns g c =
    let told = c.in-Ok.ensures in
    let asked = c.ask_again.ensures in
    let answer = c.ask_again.result in
    let position = c.args.own.position in
    let bytes = c.args.own.bytes in
    let question : Question = Again position bytes in
    let here : HearingView = heard_by g.S.Source c.tell.new.self.heard c.args.source.now in
    let there : HearingView = heard_by g.S.Source c.ask_again.new.self.heard c.ask_again.new.source in
    let mid : WireView = wire_by g.S.Source g.K.Sink c.tell.new.self c.args.source.now c.tell.new.sink in
    let new : WireView = wire_by g.S.Source g.K.Sink c.ask_again.new.self c.ask_again.new.source c.tell.new.sink in
    let is_mid : IsWire mid = told.holds c.args.source.now c.requires.is in
    let counted = is_mid.hearing.never_falls in
    let stays = asked.stays in
    let last = ap (λ (p : WireParts). p.last) stays ∙ ap (λ (p : WireParts). p.last) told.stays in
    let none : new.last ≡ None = last ∙ c.requires.fresh in
    record {
      asks = record {
        said = record { house = c.args.house.now; line = Next position } ∷ [];
        replied = noted question here.pending.due answer;
        says = ap (λ (p : WireParts). p.said) stays ∙ told.says;
        reads = asked.hears.notes ∙ ap (λ (p : WireParts). p.heard.replied ++ noted question here.pending.due answer) told.stays;
        holds = inr (
          refl,
          subst (ComesTo position bytes there (noted question here.pending.due answer)) (sym c.end_asked.ensures)
              (came_to position bytes here there asked.same counted answer asked.fits asked.hears),
        );
        start = ap (λ (p : WireParts). p.start) stays ∙ ap (λ (p : WireParts). p.start) told.stays;
        last = last;
        cut = ap (λ (p : WireParts). p.cut) stays ∙ told.cuts ∙ sym (uncut c.args.wire.now.cut answer) ∙ ap (is_cut_by c.args.wire.now.cut) (sym c.end_asked.ensures);
        is = heard_wire mid new is_mid (ap (λ (p : WireParts). p.start) stays) (ap (λ (p : WireParts). p.said) stays) (ap (λ (p : WireParts). p.cut) stays) refl refl
            (asked.heard is_mid.hearing) (hears_on here there asked.same question mid.start.hearing is_mid.hears answer asked.hears)
            (subst (IsLast there) (sym none) tt);
      };
    }
