-- Which change of a history began a version last, with one change more.
use Rattle.std.proofs.Common.{◌≡◌, ◌+◌, true, false, cond, List, [], ◌∷◌, ◌++◌, length, sym, ◌∙◌, ap}
use Rattle.command_types.specs.declared.ask.Entry.{Entry}
use Rattle.command_types.specs.Offers.{is_begin, last_begin}
use Rattle.command_types.proofs.OfferFacts.{last_begin_on}

pub begun_now : (entries : List Entry) (entry : Entry) → is_begin entry.ask.what ≡ true → length entries + 1 ≡ last_begin (entries ++ entry ∷ [])
begun_now entries entry begins = sym (last_begin_on entries entry ∙ ap (λ b. cond b (length entries + 1) (last_begin entries)) begins)

pub begun_before : (entries : List Entry) (entry : Entry) → is_begin entry.ask.what ≡ false → last_begin entries ≡ last_begin (entries ++ entry ∷ [])
begun_before entries entry other = sym (last_begin_on entries entry ∙ ap (λ b. cond b (length entries + 1) (last_begin entries)) other)
