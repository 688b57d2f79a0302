-- A count that never fell rose where it rose later.
use Rattle.std.proofs.Common.{◌≡◌, inl, inr, ℕ, ◌≤◌, List, subst, arith}
use Rattle.std.specs.Prelude.{Result, Err}
use Rattle.outside.specs.Faults.{Rose}
use Rattle.command_types.specs.declared.file_fault.FileFault.{FileFault}
use Rattle.compress_server.specs.declared.load.FileRole.{FileRole}
use Rattle.compress_server.specs.declared.load.LoadFault.{LoadFault}
use Rattle.compress_server.specs.declared.load.LoadFault.TheVariants.{Files, Faulty, Memory}
use Rattle.compress_server.specs.Files.{FilesState, Reads, IsLoadFault}

pub rose_later : (before mid after : ℕ) → before ≤ mid → Rose mid after → Rose before after
rose_later before mid after h (inl rose) = inl (omega arith)
rose_later before mid after h (inr most) = inr most

-- so a file could not be had from the beginning on, where it could not be had later, and no file changed
pub load_later : {A : Type 0} (files mid files' : FilesState) (name : List ℕ) (role : FileRole) (read : List ℕ → Result A FileFault) (fault : LoadFault) → mid.folder ≡ files.folder → files.faults ≤ mid.faults →
    IsLoadFault mid files' name role read fault → IsLoadFault files files' name role read fault
load_later files mid files' name role read (Faulty at f) same up (is, reads) = (is, subst (λ folder. Reads folder name read (Err f)) same reads)
load_later files mid files' name role read (Files at) same up (is, rose) = (is, rose_later files.faults mid.faults files'.faults up rose)
load_later files mid files' name role read Memory same up is = tt
