-- The POST that stands is the latest one: none came before it since the last BEGIN.
use Rattle.std.proofs.Common.{◌≡◌, ℕ, Bool, true, false, cond, not, ◌&&◌, List, [], ◌∷◌, ◌++◌, Option, Some, None, refl, sym, ap, ◌∙◌}
use Rattle.std.proofs.lemmas.Bool.{or_parts}
use Rattle.std.specs.List.{list_any}
use Rattle.command_types.specs.declared.ask.What.{What}
use Rattle.command_types.specs.declared.ask.What.TheVariants.{Begin}
use Rattle.trade_history.specs.Moments.{Moment, is_post, is_drop, drops}
use Rattle.trade_history.specs.Search.{Cut, later_by, cut_at_post}
use Rattle.trade_history.proofs.Kept.{is_begin, is_fresh}
use Rattle.trade_history.proofs.Found.{some_cut}

-- a POST is no BEGIN, and a BEGIN drops what was posted
post_no_begin : (cycle version : ℕ) (what : What) → is_post cycle version what ≡ true → is_begin cycle what ≡ false
post_no_begin cycle version (Begin c mode) is = cc
post_no_begin cycle version what is = refl

begin_drops : (cycle : ℕ) (what : What) → is_drop cycle what ≡ false → is_begin cycle what ≡ false
begin_drops cycle (Begin c mode) is = is
begin_drops cycle what is = refl

stale_here : (b p f : Bool) → b ≡ false → p ≡ true → cond b true (not p && f) ≡ false
stale_here b p f no_begin post = rw (no_begin, post) refl

stale_more : (b p f : Bool) → b ≡ false → f ≡ false → cond b true (not p && f) ≡ false
stale_more b true f no_begin rest = rw no_begin refl
stale_more b false f no_begin rest = rw (no_begin, rest) refl

-- a POST that nothing dropped is found since the last BEGIN
stale : (cycle version : ℕ) (later : List Moment) (posted : Moment) (before : List Moment) → list_any (drops cycle) later ≡ false → is_post cycle version posted.ask.what ≡ true →
    is_fresh cycle version (later ++ posted ∷ before) ≡ false
stale cycle version [] posted before stands post =
    stale_here (is_begin cycle posted.ask.what) (is_post cycle version posted.ask.what) (is_fresh cycle version before) (post_no_begin cycle version posted.ask.what post) post
stale cycle version (moment ∷ later) posted before stands post =
    let parts = or_parts (drops cycle moment) (list_any (drops cycle) later) stands in
    stale_more (is_begin cycle moment.ask.what) (is_post cycle version moment.ask.what) (is_fresh cycle version (later ++ posted ∷ before))
    (begin_drops cycle moment.ask.what parts.0) (stale cycle version later posted before parts.1 post)

-- the latest POST is the only one that nothing dropped, where none came before it since the last BEGIN
one_later : (moment : Moment) (o : Option Cut) (cut other : Cut) → later_by moment o ≡ Some cut → ((c : Cut) → o ≡ Some c → c.before ≡ cut.before → other ≡ c) →
    record { later = moment ∷ other.later; posted = other.posted; before = other.before } ≡ cut
one_later moment None cut other e rest = cc
one_later moment (Some c) cut other e rest =
    let same = some_cut (record { later = moment ∷ c.later; posted = c.posted; before = c.before }) cut e in
    ap (λ x. record { later = moment ∷ x.later; posted = x.posted; before = x.before }) (rest c refl (ap (λ x. x.before) same)) ∙ same

one_here : (cycle version : ℕ) (moment : Moment) (later : List Moment) (posted : Moment) (before : List Moment) (cut : Cut) (b : Bool) →
    list_any (drops cycle) later ≡ false → is_post cycle version posted.ask.what ≡ true → is_fresh cycle version cut.before ≡ true →
    ((c : Cut) → cut_at_post cycle version (later ++ posted ∷ before) ≡ Some c → is_fresh cycle version c.before ≡ true → record { later = later; posted = posted; before = before } ≡ c) →
    cond b (Some (record { later = []; posted = moment; before = later ++ posted ∷ before })) (later_by moment (cut_at_post cycle version (later ++ posted ∷ before))) ≡ Some cut →
    record { later = moment ∷ later; posted = posted; before = before } ≡ cut
one_here cycle version moment later posted before cut true stands post fresh rest e =
    let same = some_cut (record { later = []; posted = moment; before = later ++ posted ∷ before }) cut e in
    let no = stale cycle version later posted before stands post in
    let yes = ap (λ c. is_fresh cycle version c.before) same ∙ fresh in
    cc
one_here cycle version moment later posted before cut false stands post fresh rest e =
    one_later moment (cut_at_post cycle version (later ++ posted ∷ before)) cut (record { later = later; posted = posted; before = before }) e
    (λ c is same. rest c is (ap (is_fresh cycle version) same ∙ fresh))

pub one-cut : (cycle version : ℕ) (later : List Moment) (posted : Moment) (before : List Moment) (cut : Cut) → list_any (drops cycle) later ≡ false → is_post cycle version posted.ask.what ≡ true →
    is_fresh cycle version cut.before ≡ true → cut_at_post cycle version (later ++ posted ∷ before) ≡ Some cut → record { later = later; posted = posted; before = before } ≡ cut
one-cut cycle version [] posted before cut stands post fresh e =
    some_cut (record { later = []; posted = posted; before = before }) cut
    (sym (ap (λ b. cond b (Some (record { later = []; posted = posted; before = before })) (later_by posted (cut_at_post cycle version before))) post) ∙ e)
one-cut cycle version (moment ∷ later) posted before cut stands post fresh e =
    let parts = or_parts (drops cycle moment) (list_any (drops cycle) later) stands in
    one_here cycle version moment later posted before cut (is_post cycle version moment.ask.what) parts.1 post fresh
    (λ c is fresh_c. one-cut cycle version later posted before c parts.1 post fresh_c is) e
