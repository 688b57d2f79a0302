-- A script and a service over a roster of nobody, each of which is told BYE, and what is outside before and after them.
use Rattle.std.specs.Prelude.{ℕ, zero, suc, ◌+◌, Bool, true, List, [], ◌∷◌, Option, Some, None, codes}
use Rattle.doors.specs.Visits.{Visit, Visits, Doors}
use Rattle.outside.specs.Files.{Folder}
use Rattle.outside.specs.Flow.{Flow}
use Rattle.command_types.specs.Machine.{empty_state}
use Rattle.command_types.specs.History.{History, new_history}
use Rattle.command_types.specs.Roster.{Rows}
use Rattle.house.specs.House.{HouseView, house_of, journal_of}
use Rattle.cycle_lock.specs.Passes.{LockId}
use Rattle.session.specs.Serving.{Seat}
use Rattle.seats.specs.Final.{Final}
use Rattle.compress_server.specs.Housed.{disk_of}
use Rattle.compress_server.specs.Seen.{OutputState, World, output_of, listener_of, seen_of}
use Rattle.compress_server.specs.Serve.{ServicePlan, history_line, seat_at, final_of}
use Rattle.program_words.specs.Words.{Form}

-- the bytes of the roster's file, and its rows
abbrev pub header : List ℕ
header = codes "name,role,key\n"

abbrev pub nobody_there : Rows
nobody_there = record { members = []; products = []; operator = None }

-- what is said, and the text of its reply
abbrev pub said : List ℕ
said = codes "BYE\n"

abbrev pub replied : List ℕ
replied = codes "ok 0 bye\n"

-- a clock that may tell every moment
abbrev pub clock : ℕ → Bool
clock moment = true

-- the house that is opened on a disk that tells nothing, whose history stays as it is
abbrev pub first_history : History
first_history = new_history (empty_state nobody_there)

abbrev pub first_house : HouseView
first_house = house_of first_history 0 (journal_of 30 0 None None first_history) [] None 0

-- what is outside, by the files, an input, what the outputs took, and a listener; the disk tells nothing, and no call of any failed
abbrev pub world_of : Option Folder → Option Flow → OutputState → OutputState → Option Doors → World
world_of folder flow errors output doors = record {
  files = record { folder = folder; faults = 0 };
  input = record { flow = flow; faults = 0 };
  errors = errors;
  seen = seen_of output (disk_of None 0) (listener_of doors 0);
}

-- an output that took these bytes
abbrev pub took : List ℕ → OutputState
took bytes = output_of (Some bytes) 0

-- each file is that of the roster
abbrev pub folder : Option Folder
folder = Some (λ name. Some header)

-- nothing tells anything
abbrev pub untold : World
untold = world_of None None (output_of None 0) (output_of None 0) None

-- before a script that is told BYE, and after it
abbrev pub script_before : World
script_before = world_of folder (Some (record { given = []; left = said })) (took []) (took []) None

abbrev pub script_after : World
script_after = world_of folder (Some (record { given = said; left = [] })) (took []) (took replied) None

abbrev pub script_form : Form
script_form = Form.Script (codes "roster.csv") (codes "journal") 4

-- a service of one seat, which may serve two connections
abbrev pub service_plan : ServicePlan
service_plan = record { address = codes "127.0.0.1:7070"; seats = 1; connections = 2 }

abbrev pub service_form : Form
service_form = Form.Serve (codes "roster.csv") (codes "journal") (codes "127.0.0.1:7070") (record { seats = 1; connections = 2; workers = 4; idle = None })

-- the one connection that is to come to the first door, and what it is then
abbrev pub planned : ℕ → List (List ℕ)
planned zero = said ∷ []
planned (suc number) = []

abbrev pub visit : Visit
visit = record { gave = said; left = []; took = replied; input_faults = 0; output_faults = 0 }

-- the door when it came back
abbrev pub door : Visits
door = record { coming = []; out = 0; back = visit ∷ [] }

-- the listener's doors: before the service, once it listens, while the door is out, and when the door is back
abbrev pub doors_before : Doors
doors_before = record { address = None; planned = planned; lent = 0; back = [] }

abbrev pub doors_bound : Doors
doors_bound = record doors_before { address = Some service_plan.address }

abbrev pub doors_lent : Doors
doors_lent = record doors_bound { planned = λ number. planned (number + 1); lent = 1 }

abbrev pub doors_after : Doors
doors_after = record doors_lent { lent = 0; back = door ∷ [] }

-- before the service, and after it
abbrev pub service_before : World
service_before = world_of folder None (took []) (took []) (Some doors_before)

abbrev pub service_after : World
service_after = world_of folder None (took []) (took (history_line 0)) (Some doors_after)

-- the lock of its seats, its seat, and the desk that comes back
abbrev pub lock : LockId
lock = record { words = 0; slots = 0; views_name = 0; atom = 0; block = 0; offset = 0; slot_names = [] }

abbrev pub seat : Seat
seat = seat_at lock first_house 1

abbrev pub final : Final
final = final_of first_house
