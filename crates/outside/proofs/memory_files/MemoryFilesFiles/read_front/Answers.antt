use Rattle.std.proofs.Common.{rules, ◌≡◌, Bool, true, false, not, ◌||◌, is_some, IsTrue}
use Rattle.outside.specs.Faults.{one_more, is_listed}
use Rattle.outside.specs.MemoryFiles.{bytes_named}
use Rattle.outside.proofs.memory_files.MemoryFilesFiles.read_front.Goals as goal

-- a read that is not told to fail doesn't fail where there is a file
calm : (listed there : Bool) → listed ≡ false → there ≡ true → IsTrue (listed || not there) → ⊥
calm listed there a b h = let no = rw (a, b) at h in cc

pub returns-in-Ok-clause-fails : goal.returns-in-Ok-clause-fails
returns-in-Ok-clause-fails c =
    let listed : is_listed (one_more c.self.inside.reads) c.self.inside.failing.items ≡ false = search rules in
    let there : is_some (bytes_named c.self.inside.files.items c.args.name.now) ≡ true = rw c.deref-2.ensures.value at c.in-Ok.ensures.found in
    rw (← c.self.view_is) (λ e. absurd cc, λ f. absurd (calm _ _ listed there f))

pub returns-in-Err-Memory-clause-fails : goal.returns-in-Err-Memory-clause-fails
returns-in-Err-Memory-clause-fails c =
    let listed : is_listed (one_more c.self.inside.reads) c.self.inside.failing.items ≡ false = search rules in
    let there : is_some (bytes_named c.self.inside.files.items c.args.name.now) ≡ true = rw c.deref-2.ensures.value at (c.in-Err-Memory.ensures.refused cc) in
    rw (← c.self.view_is) (λ e. absurd cc, λ f. absurd (calm _ _ listed there f))
