-- The graph whose arcs lead the other way, and what is noted of both.
use Rattle.std.proofs.Common.{◌≡◌, ℕ, zero, suc, ◌<◌, Bool, true, false, cond, ltb, eqb, ◌&&◌, List, [], ◌∷◌, length, map, refl, sym, ap, ◌∙◌, subst, inl, inr, arith}
use Rattle.std.proofs.lemmas.Bool.{cases_Bool, eqb-true, lt-ltb, and_parts, cond-true, cond-false}
use Rattle.std.proofs.lemmas.List.{length-map, get_or-map}
use Rattle.member_set.specs.Members.{has}
use Rattle.residual_graph.specs.declared.flow.Flow.{Flow}
use Rattle.residual_graph.specs.Residual.{ResidualData, IsResidual}
use Rattle.residual_graph.specs.Arcs.{no_flow, flow_at, room_in, moved}
use Rattle.path_solver.specs.declared.entries.Entry.{Entry}
use Rattle.path_solver.specs.declared.neighbours.PairRow.{PairRow}
use Rattle.path_solver.specs.declared.neighbours.Neighbours.{Neighbours}
use Rattle.path_solver.specs.Entries.{entry_at, AreEntriesTo, IsNoted}
use Rattle.path_solver.specs.Neighbours.{turned, turned_graph, AreNumbers, AreNeighbours, IsChanged}
use Rattle.path_solver.proofs.Noted.{IsNext, noted_more}

pub flow_turned : (flows : List Flow) (k : ℕ) → flow_at (map turned flows) k ≡ turned (flow_at flows k)
flow_turned [] zero = refl
flow_turned [] (suc k) = refl
flow_turned (f ∷ flows) zero = refl
flow_turned (f ∷ flows) (suc k) = flow_turned flows k

pub count_turned : (flows : List Flow) → length (map turned flows) ≡ length flows
count_turned flows = length-map flows turned

pub residual_turned : (r : ResidualData) → IsResidual r → IsResidual (turned_graph r)
residual_turned r h = record {
  few = h.few;
  good = λ k d l.
      let in_old : k < length r.flows = omega (arith, l, count_turned r.flows) in
      let f = h.good k no_flow in_old in
      let is = get_or-map turned r.flows k no_flow d in_old in
      record {
        seller = omega (arith, f.seller, ap (λ (g : Flow). g.seller) is);
        buyer = omega (arith, f.buyer, ap (λ (g : Flow). g.buyer) is);
        different = λ e. f.different (sym (ap (λ (g : Flow). g.seller) is) ∙ e ∙ ap (λ (g : Flow). g.buyer) is);
        small = omega (arith, f.small, ap (λ (g : Flow). g.lower) is, ap (λ (g : Flow). g.back) is, ap (λ (g : Flow). g.room) is);
      };
  rising = λ i j d lt l.
      let in_old : j < length r.flows = omega (arith, l, count_turned r.flows) in
      let old = h.rising i j no_flow lt in_old in
      let at_i = get_or-map turned r.flows i no_flow d (omega (arith, lt, in_old)) in
      let at_j = get_or-map turned r.flows j no_flow d in_old in
      omega (arith, old, ap (λ (g : Flow). g.seller) at_i, ap (λ (g : Flow). g.buyer) at_i, ap (λ (g : Flow). g.seller) at_j, ap (λ (g : Flow). g.buyer) at_j);
}

pub next_turned : (n m k : ℕ) (r s : ResidualData) → IsNext n m k r s → IsNext n m k (turned_graph r) (turned_graph s)
next_turned n m k r s h = record {
  members = h.members;
  within = omega (arith, h.within, count_turned s.flows);
  pairs = count_turned s.flows ∙ h.pairs ∙ sym (count_turned r.flows);
  seller = λ j l. ap (λ (g : Flow). g.seller) (flow_turned s.flows j) ∙ h.seller j (omega (arith, l, count_turned r.flows)) ∙ sym (ap (λ (g : Flow). g.seller) (flow_turned r.flows j));
  buyer = λ j l. ap (λ (g : Flow). g.buyer) (flow_turned s.flows j) ∙ h.buyer j (omega (arith, l, count_turned r.flows)) ∙ sym (ap (λ (g : Flow). g.buyer) (flow_turned r.flows j));
  others = λ j ne. flow_turned s.flows j ∙ ap turned (h.others j ne) ∙ sym (flow_turned r.flows j);
  fewer = h.fewer;
  last = h.last;
  rest = h.rest;
  all = omega (arith, h.all, count_turned s.flows);
}

-- a pair that can do what it could is noted
same_noted : (n : ℕ) (r : ResidualData) (old : List Entry) (k : ℕ) (f : Flow) → AreEntriesTo n r old → k < n → (flow_at r.flows k).seller ≡ f.seller → (flow_at r.flows k).buyer ≡ f.buyer → ltb 0 (flow_at r.flows k).room ≡ ltb 0 f.room → ltb 0 (flow_at r.flows k).back ≡ ltb 0 f.back → IsNoted f old old
same_noted n r old k f h l seller buyer room back = record {
  one_each = refl;
  sellers = λ v u lv.
      elim (cases_Bool (eqb v f.buyer && eqb u f.seller)) [
        | inl test ↦
            let both = and_parts (eqb v f.buyer) (eqb u f.seller) test in
            let at_v : v ≡ (flow_at r.flows k).buyer = eqb-true v f.buyer both.0 ∙ sym buyer in
            let at_u : u ≡ (flow_at r.flows k).seller = eqb-true u f.seller both.1 ∙ sym seller in
            rw (at_v, at_u) (h.growing k l) ∙ room ∙ sym (cond-true {A = Bool} (eqb v f.buyer && eqb u f.seller) (ltb 0 f.room) (has (entry_at old v).sellers u) test)
        | inr test ↦ sym (cond-false {A = Bool} (eqb v f.buyer && eqb u f.seller) (ltb 0 f.room) (has (entry_at old v).sellers u) test)
      ];
  buyers = λ v u lv.
      elim (cases_Bool (eqb v f.seller && eqb u f.buyer)) [
        | inl test ↦
            let both = and_parts (eqb v f.seller) (eqb u f.buyer) test in
            let at_v : v ≡ (flow_at r.flows k).seller = eqb-true v f.seller both.0 ∙ sym seller in
            let at_u : u ≡ (flow_at r.flows k).buyer = eqb-true u f.buyer both.1 ∙ sym buyer in
            rw (at_v, at_u) (h.falling k l) ∙ back ∙ sym (cond-true {A = Bool} (eqb v f.seller && eqb u f.buyer) (ltb 0 f.back) (has (entry_at old v).buyers u) test)
        | inr test ↦ sym (cond-false {A = Bool} (eqb v f.seller && eqb u f.buyer) (ltb 0 f.back) (has (entry_at old v).buyers u) test)
      ];
}

-- where nothing turned, both arcs had room before, and have it still
record IsRoomy (f : Flow) : Type 0 where
  pub room : 0 < f.room
  pub back : 0 < f.back

-- what a pair can take the other way
abbrev twin_in : Flow → Bool → ℕ
twin_in f forward = cond forward f.back f.room

untouched : (x : ℕ) (f g : Flow) (b : Bool) → f ≡ moved x b g → x < room_in g b → 0 < twin_in g b → IsRoomy f × IsRoomy g
untouched x f g true is less twin =
    let at_room = ap (λ (h : Flow). h.room) is in
    let at_back = ap (λ (h : Flow). h.back) is in
    (record { room = omega (arith, less, at_room); back = omega (arith, twin, at_back) }, record { room = omega (arith, less); back = omega (arith, twin) })
untouched x f g false is less twin =
    let at_room = ap (λ (h : Flow). h.room) is in
    let at_back = ap (λ (h : Flow). h.back) is in
    (record { room = omega (arith, twin, at_room); back = omega (arith, less, at_back) }, record { room = omega (arith, twin); back = omega (arith, less) })

same_test : (x y : ℕ) → 0 < x → 0 < y → ltb 0 x ≡ ltb 0 y
same_test x y p q = lt-ltb 0 x p ∙ sym (lt-ltb 0 y q)

numbers_kept : (r s : ResidualData) (rows : List PairRow) → s.members ≡ r.members → length s.flows ≡ length r.flows → ((j : ℕ) → j < length r.flows → (flow_at s.flows j).seller ≡ (flow_at r.flows j).seller) → ((j : ℕ) → j < length r.flows → (flow_at s.flows j).buyer ≡ (flow_at r.flows j).buyer) → AreNumbers r rows → AreNumbers s rows
numbers_kept r s rows members pairs seller buyer h = record {
  one_each = h.one_each ∙ sym members;
  numbers = λ k l.
      let in_old : k < length r.flows = omega (arith, l, pairs) in
      rw (seller k in_old, buyer k in_old) (h.numbers k in_old);
}

-- where nothing turned, what was noted of the pair holds still
pub still_noted : (x : ℕ) (r s : ResidualData) (k : ℕ) (b : Bool) (old : Neighbours) → IsNext (length r.flows) (length r.flows) k r s → flow_at s.flows k ≡ moved x b (flow_at r.flows k) → AreNeighbours r old → x < room_in (flow_at r.flows k) b → 0 < cond b (flow_at r.flows k).back (flow_at r.flows k).room → IsChanged (flow_at s.flows k) old old
still_noted x r s k b old next is are less twin =
    let n = length r.flows in
    let f = flow_at s.flows k in
    let g = flow_at r.flows k in
    let seller : g.seller ≡ f.seller = sym (next.seller k next.last) in
    let buyer : g.buyer ≡ f.buyer = sym (next.buyer k next.last) in
    let there : AreEntriesTo (length r.flows) (turned_graph r) old.exits.items = subst (λ m. AreEntriesTo m (turned_graph r) old.exits.items) (count_turned r.flows) are.exits in
    let roomy = untouched x f g b is less twin in
    let at_t = flow_turned r.flows k in
    record {
      rows = refl;
      entries = same_noted n r old.entries.items k f are.entries next.last seller buyer (same_test g.room f.room roomy.1.room roomy.0.room) (same_test g.back f.back roomy.1.back roomy.0.back);
      exits = same_noted n (turned_graph r) old.exits.items k (turned f) there next.last (ap (λ (h : Flow). h.seller) at_t ∙ seller) (ap (λ (h : Flow). h.buyer) at_t ∙ buyer)
          (ap (λ (h : Flow). ltb 0 h.room) at_t ∙ same_test g.back f.back roomy.1.back roomy.0.back) (ap (λ (h : Flow). ltb 0 h.back) at_t ∙ same_test g.room f.room roomy.1.room roomy.0.room);
    }

-- after an amount was moved over a pair, and the pair was noted
pub neighbours_more : (r s : ResidualData) (k : ℕ) (old new : Neighbours) → IsResidual s → IsNext (length r.flows) (length r.flows) k r s → AreNeighbours r old → IsChanged (flow_at s.flows k) old new → AreNeighbours s new
neighbours_more r s k old new residual next are c =
    let n = length r.flows in
    let there : AreEntriesTo (length r.flows) (turned_graph r) old.exits.items = subst (λ m. AreEntriesTo m (turned_graph r) old.exits.items) (count_turned r.flows) are.exits in
    let noted_there : IsNoted (flow_at (turned_graph s).flows k) old.exits.items new.exits.items = subst (λ (h : Flow). IsNoted h old.exits.items new.exits.items) (sym (flow_turned s.flows k)) c.exits in
    record {
      entries = subst (λ m. AreEntriesTo m s new.entries.items) (sym next.pairs) (noted_more n n k r s old.entries.items new.entries.items residual next are.entries c.entries);
      exits = subst (λ m. AreEntriesTo m (turned_graph s) new.exits.items) (sym (count_turned s.flows ∙ next.pairs))
          (noted_more n n k (turned_graph r) (turned_graph s) old.exits.items new.exits.items (residual_turned s residual) (next_turned n n k r s next) there noted_there);
      rows = subst (AreNumbers s) (sym c.rows) (numbers_kept r s old.rows.items next.members next.pairs next.seller next.buyer are.rows);
    }
