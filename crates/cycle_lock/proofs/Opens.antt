-- The table at its opening meets the rule.
use Rattle.std.proofs.Common.{◌≡◌, ℕ, suc, zero, ◌+◌, ◌^◌, ◌≤◌, Bool, true, List, [], ◌∷◌, length, drop, set, replicate, sym, refl, ap, ◌∙◌, subst, arith}
use Rattle.std.specs.Prelude.{Some}
use Rattle.std.proofs.lemmas.List.{append-nil}
use mathlib.Core.Option.{some, some-injective, some-ne-none}
use mathlib.Core.Logic.{dite}
use native.Mathlib.Decide.{ℕ_discrete}
use lib.ListN.{get_elem?}
use Rattle.std.proofs.Math.Seq.{drop-length}
use Rattle.cycle_lock.proofs.Numbers.{times_here, times_there}
use Rattle.atomic_table.specs.Table.{opening}
use Rattle.command_types.specs.declared.ask.Entry.{Entry}
use Rattle.command_types.specs.declared.figures.Figures.{Figures}
use Rattle.cycle_lock.specs.declared.rule.TheConstants.{WORDS}
use Rattle.cycle_lock.specs.declared.rule.View.{View}
use Rattle.cycle_lock.specs.Accounts.{by}
use Rattle.command_types.specs.History.{History, IsLegal, IsLegalFrom, end_of}
use Rattle.cycle_lock.specs.Line.{Lies}
use Rattle.cycle_lock.specs.Accounts.{times, opening_count}
use Rattle.cycle_lock.proofs.Histories.{from_base}
use Rattle.cycle_lock.specs.Views.{splits_left, ticketed, width, newcomer}
use Rattle.cycle_lock.specs.Kept.{Fits, Kept}

only : (v u : View) (j : ℕ) → get_elem? (v ∷ []) j ≡ some u → (j ≡ 0) × (v ≡ u)
only v u zero e = (refl, some-injective v u e)
only v u (suc j) e = absurd (some-ne-none u (sym e))

opening_has : (n : ℕ) → 1 ≤ n → times n (0 ∷ []) ≡ 0
opening_has n h = times_there n 0 [] (λ e. omega arith)

once_at_most : (n : ℕ) → times n (0 ∷ []) ≤ 1
once_at_most n = dite (ℕ_discrete 0 n) (λ e. let h = subst (λ (z : ℕ). times z (0 ∷ []) ≡ suc (times z [])) e (times_here 0 []) in omega arith) (λ ne. let h = times_there n 0 [] ne in omega arith)

no_more : (figures : Figures) (base : ℕ) (entries : List Entry) → base ≡ figures.base.position → base + length entries ≡ figures.opening → opening_count figures ≡ length entries
no_more figures base entries e f = omega arith

pub opens : {T : Type 0} (history : T → History) (figures_of : T → Figures) (stopped : T → Bool) (d : T) (at : ℕ) → at ≡ end_of (history d) → (history d).base ≡ (figures_of d).base → IsLegal (history d) → end_of (history d) ≡ (figures_of d).opening
    → Kept history figures_of stopped (figures_of d) (opening (set (set (replicate WORDS 0) 0 at) 3 1) (Some d ∷ []) (newcomer (history d).entries (stopped d) (figures_of d)))
opens history figures_of stopped d at is base legal fresh =
    let log : List Entry = (history d).entries in let figures : Figures = figures_of d in
    let all : opening_count figures ≡ length log = no_more figures (history d).base.position log (ap (λ b. b.position) base) fresh in
    let nothing : drop (opening_count figures) log ≡ [] = ap (λ (n : ℕ). drop n log) all ∙ drop-length log in
    let v : View = newcomer log (stopped d) figures in record {
      log = log;
      stop = stopped d;
      line = record {
        drawn = 0;
        served = 0;
        wide = refl;
        drawn_is = refl;
        served_is = refl;
        counted = refl;
        stands = λ j u p. subst (λ (z : View). ticketed z ≤ width z) (only v u j p).1 (omega arith);
        each = λ j u p. subst (λ (z : View). Lies 0 0 z.ticket z.stage) (only v u j p).1 tt;
        apart = λ i j a b p q _ _ _. (only v a i p).0 ∙ sym (only v b j q).0;
      };
      one = refl;
      counts = is ∙ ap (λ b. b.position + length log) base;
      legal = subst (λ b. IsLegalFrom b.state log) base legal;
      later = omega arith;
      each_seat = λ j u p. subst (λ (z : View). Fits log (stopped d) figures z) (only v u j p).1
          record {
            knows = tt;
            own = record { same = λ _. refl; later = λ _. omega arith; mine = λ _. omega (arith, times_here 0 []); begins = ([], sym (append-nil log)); stops = λ e. e; made = λ n _. refl };
            guest = tt;
          };
      numbers = record {
        small = omega arith;
        few = omega arith;
        once = λ n. omega (arith, once_at_most n);
        below = λ n le. omega (arith, opening_has n le);
        entries = λ n le. ap (by n) nothing;
        splitter = λ j u p pos. subst (λ (z : View). 1 + splits_left z ≡ 2 ^ 32) (only v u j p).1 refl;
        alone = λ i j a b p q _ _. (only v a i p).0 ∙ sym (only v b j q).0;
      };
      home = λ _. (d, refl, (from_base history figures_of d base, refl, refl));
      lone = λ _ halts j u p _. subst (λ (z : View). z.account.stop ≡ true) (only v u j p).1 halts;
    }
