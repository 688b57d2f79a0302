-- The jobs of workers.
use Rattle.std.specs.Prelude.{◌≡◌, ℕ, ◌+◌, ◌==◌, ◌<◌, ◌≤◌, ◌⊎◌, true, false, List, [], ◌∷◌, length, slice_get, Option, Some, All}
use Rattle.network_laws.specs.Solutions.{ProblemData, SolutionData}
use Rattle.claim_counter.specs.declared.workers.Counter.{Counter}
use Rattle.claim_counter.specs.Claims.{one_if, times}
use Rattle.claim_counter.specs.Workers.{IsWorkerOf, view_of}
use Rattle.parallel_solver.specs.declared.job.Done.{Done}
use Rattle.parallel_solver.specs.declared.job.Job.{Job}
use Rattle.parallel_solver.specs.Places.{SolvesAt, IsFound}

-- it solves the problem of its place
pub record IsRight (problems : List ProblemData) (done : Done) : Type 0 where
  pub within : done.place < length problems
  pub solves : SolvesAt problems done.place done.solution

-- how many of these are solutions for that place
abbrev pub solved_at : ℕ → List Done → ℕ
solved_at place [] = 0
solved_at place (d ∷ ds) = one_if (d.place == place) + solved_at place ds

-- the job has a solution for each place as often as its worker has claimed it
abbrev pub SolvesClaims : List ProblemData → Job → Type 0
SolvesClaims problems job = (place : ℕ) → place < length problems → solved_at place job.done.items ≡ times place (view_of job.worker).taken

-- the worker has claimed a number past the last problem
abbrev pub HasPassed : List ProblemData → List ℕ → Type 0
HasPassed problems taken = (n : ℕ) × (length problems ≤ n) × (1 ≤ times n taken)

-- the worker may claim, and what it has claimed is solved right
pub record MayWork (table : Counter) (problems : List ProblemData) (job : Job) : Type 0 where
  pub own : IsWorkerOf table job.worker
  pub room : 0 < (view_of job.worker).room
  pub parts : (view_of job.worker).parts ≡ 1
  pub pieces : (view_of job.worker).pieces ≡ length problems
  pub done : All (IsRight problems) job.done.items
  pub claims : SolvesClaims problems job
  pub unfinished : job.finished ≡ false

-- what the worker has solved is right, and where it has finished, all that it has claimed is solved, and no problem was left
pub record HasWorked (table : Counter) (problems : List ProblemData) (job : Job) : Type 0 where
  pub own : IsWorkerOf table job.worker
  pub parts : (view_of job.worker).parts ≡ 1
  pub done : All (IsRight problems) job.done.items
  pub claims : job.finished ≡ true → SolvesClaims problems job
  pub passed : job.finished ≡ true → HasPassed problems (view_of job.worker).taken

-- what was found is right, and has a place for each problem
pub record AreRight (problems : List ProblemData) (found : List (Option SolutionData)) : Type 0 where
  pub size : length found ≡ length problems
  pub each : (place : ℕ) (s : SolutionData) → slice_get found place ≡ Some (Some s) → SolvesAt problems place s

-- what was found before stays found, and so are the places of these
abbrev pub FindsToo : List (Option SolutionData) → List Done → List (Option SolutionData) → Type 0
FindsToo before done after = (place : ℕ) → IsFound before place ⊎ (1 ≤ solved_at place done) → IsFound after place

-- a solution was found for each problem
abbrev pub AreFound : List ProblemData → List (Option SolutionData) → Type 0
AreFound problems found = (place : ℕ) → place < length problems → IsFound found place
