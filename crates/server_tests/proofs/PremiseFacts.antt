-- The script and the service meet the premises of the laws.
use Rattle.std.proofs.Common.{◌≡◌, inl, inr, refl, arith, true, false, List, [], ◌∷◌, Option, Some, None, Ok, codes}
use Rattle.csv.proofs.OnLiterals.{csv_on_literals}
use Rattle.doors.specs.Visits.{Visits}
use Rattle.outside.specs.Faults.{Rose}
use Rattle.command_types.specs.Lines.{cut_of}
use Rattle.command_types.specs.Roster.{IsRoster}
use Rattle.command_types.specs.Session.{IsSession}
use Rattle.cycle_laws.specs.Bases.{IsWritable}
use Rattle.cycle_laws.proofs.Bases.{empty_is_writable}
use Rattle.house.specs.House.{figures_of}
use Rattle.session.specs.declared.serve.SessionEnd.TheVariants as session_end
use Rattle.session.specs.Serving.{Sight, Written}
use Rattle.seats.specs.declared.seat.SeatEnd.TheVariants.{Over}
use Rattle.seats.specs.Final.{AreServed, sight_at}
use Rattle.seats.specs.Sessions.{IsVisit}
use Rattle.trade_file.specs.RosterFile.{roster_file, with_records}
use Rattle.compress_server.specs.declared.ending.End.TheVariants.{Done}
use Rattle.compress_server.specs.declared.script.ScriptEnd.TheVariants as script_end
use Rattle.compress_server.specs.declared.serve.ServiceEnd.TheVariants as service_end
use Rattle.compress_server.specs.Complete.{IsUndisturbed}
use Rattle.compress_server.specs.Files.{SaysRoster}
use Rattle.compress_server.specs.Housed.{disk_of, IsHoused}
use Rattle.compress_server.specs.Run.{IsLeft}
use Rattle.compress_server.specs.Seen.{listener_of}
use Rattle.compress_server.specs.Serve.{SeatRun, HaveServed, IsService, history_line}
use Rattle.compress_server.specs.Telling.{Ends}
use Rattle.compress_server.proofs.CycleFacts.{keeps_laws}
use Rattle.server_tests.specs.Premises.{clock, header, nobody_there, said, replied, first_history, first_house, took, folder, untold, script_before, script_after, script_form, service_plan, service_form, visit, door, doors_before, doors_bound, doors_lent, doors_after, service_before, service_after, lock, seat, final}
use Rattle.server_tests.proofs.ByeFacts.{gone, line, talk}

-- a count that stays 0 has not risen
still : Rose 0 0 → ⊥
still (inl lt) = absurd (omega (arith, lt))
still (inr most) = absurd (omega (arith, most))

-- ---- the roster and the house

reads : roster_file header ≡ Ok nobody_there
unfolding csv_on_literals with_records
reads = refl

says : SaysRoster folder (codes "roster.csv") nobody_there
says = (header, refl, reads)

says_untold : SaysRoster None (codes "roster.csv") nobody_there
says_untold = (header, tt, reads)

is_roster : IsRoster nobody_there
is_roster = record { few_members = omega arith; few_dealers = omega arith; few_products = omega arith; different = refl }

writable : IsWritable nobody_there first_history.base.state
writable = empty_is_writable nobody_there (omega arith) (omega arith)

housed : IsHoused nobody_there (disk_of None 0) (disk_of None 0) first_house first_house
housed = record {
  opened = record {
    first_base = writable;
    first_legal = tt;
    stands = tt;
    opens = inl refl;
    base = writable;
    opening = refl;
    running = refl;
    tells = refl;
    first_moment = refl;
    moment = refl;
    counted = (omega arith, refl);
  };
  figures = refl;
  legal_first = tt;
  legal = tt;
  stands = λ none. tt;
  leaves = λ none. tt;
  few_kept = omega arith;
  kept_legal = tt;
  leaves_kept = tt;
  never_back = tt;
  any_moment = refl;
  stopped = λ e. absurd cc;
  first_cycles = keeps_laws nobody_there first_history writable.market tt;
  cycles = keeps_laws nobody_there first_history writable.market tt;
}

-- ---- the script

abbrev session : IsSession clock (figures_of first_house) first_history 0 (record gone { over = false }) (line ∷ []) replied
session = record { made = []; to = gone; talk = talk (figures_of first_house) 0; own = refl }

left : IsLeft clock first_house first_house (Some []) (Some replied) (cut_of said).whole
left = record { said = line ∷ []; others = []; order = refl; replied = record { text = replied; session = session; all = refl; stops = λ e. absurd cc; known = λ e. absurd cc; took = refl }; over = refl }

left_untold : IsLeft clock first_house first_house None None (cut_of said).whole
left_untold = record { said = line ∷ []; others = []; order = refl; replied = record { text = replied; session = session; all = refl; stops = λ e. absurd cc; known = λ e. absurd cc; took = tt }; over = refl }

pub script_ends : Ends {D = Option Visits} clock (λ d. d) (Some script_form) script_before script_after 0
script_ends = record {
  end = Done;
  runs = (refl, (script_end.Done, refl, (nobody_there, says, is_roster, (first_house, first_house, housed, (refl, (said, (refl, refl), inr (omega arith, left)))))));
  tells = inl (refl, inl refl);
}

pub untold_ends : Ends {D = Option Visits} clock (λ d. d) (Some script_form) untold untold 0
untold_ends = record {
  end = Done;
  runs = (refl, (script_end.Done, refl, (nobody_there, says_untold, is_roster, (first_house, first_house, housed, (refl, (said, tt, inr (omega arith, left_untold)))))));
  tells = inl (refl, inl tt);
}

pub script_undisturbed : IsUndisturbed script_before script_after
script_undisturbed = record { files_held = still; input_held = still; output_held = still; disk_held = still; listener_held = still }

pub untold_undisturbed : IsUndisturbed untold untold
untold_undisturbed = record { files_held = still; input_held = still; output_held = still; disk_held = still; listener_held = still }

-- ---- the service

abbrev sight : Sight
sight = sight_at seat first_history 0 false

abbrev written : Written clock sight (Some []) (Some replied) sight (line ∷ [])
written = record {
  text = replied;
  made = [];
  to = gone;
  there = refl;
  grows = record { seat = refl; more = []; grown = refl; own = refl; legal = λ legal. legal };
  took = refl;
  talk = talk (figures_of first_house) 1;
}

visited : IsVisit clock sight sight visit
visited = record {
  end = session_end.Ended;
  ends = (said, (refl, refl), inr (omega arith, record { said = line ∷ []; others = []; order = refl; written = written; over = refl }));
  source_fault = λ e. absurd cc;
  sink_fault = λ e. absurd cc;
}

pub seat_served : AreServed clock final seat 0 false (visit ∷ []) Over
unfolding visited
seat_served = (0, false, omega arith, omega arith, visited, (λ e. absurd cc), (refl, λ e. absurd cc))

abbrev seats : List (SeatRun (Option Visits))
seats = record { door = Some door; end = Over } ∷ []

have_served : HaveServed clock (λ (d : Option Visits). d) service_plan first_house first_house seats
have_served = record {
  count = refl;
  goes_on = ([], refl);
  others = λ n lt. refl;
  none = refl;
  lock = lock;
  each = (record { none_out = refl; few = omega arith; most = λ e. absurd cc; over = λ e. refl; served = seat_served }, tt);
}

a_service : IsService clock (λ (d : Option Visits). d) service_plan first_house first_house (took []) (took (history_line 0)) (listener_of (Some doors_before) 0) (listener_of (Some doors_after) 0) service_end.Done
a_service = record {
  seats = seats;
  served = have_served;
  returned = (Some doors_bound, Some doors_lent, refl, refl, (Some doors_after, refl, refl));
  given = (refl, tt);
  written = true;
  wrote = refl;
  told = refl;
  counted = λ e. absurd cc;
}

pub service_ends : Ends {D = Option Visits} clock (λ d. d) (Some service_form) service_before service_after 0
service_ends = record {
  end = Done;
  runs = (refl, (service_end.Done, refl, inr (nobody_there, says, is_roster, inr (first_house, first_house, housed, inr a_service))));
  tells = inl (refl, inl refl);
}

pub service_undisturbed : IsUndisturbed service_before service_after
service_undisturbed = record { files_held = still; input_held = still; output_held = still; disk_held = still; listener_held = still }
