-- The machine never answers that the disk failed.
use Rattle.std.proofs.Common.{◌≡◌, false, refl}
use Rattle.command_types.specs.declared.ask.Ask.{Ask}
use Rattle.command_types.specs.declared.answer.Answer.{Answer}
use Rattle.command_types.specs.declared.answer.Answer.TheVariants.{No}
use Rattle.command_types.specs.declared.refusal.Refusal.TheVariants.{DiskFault}
use Rattle.command_types.specs.declared.figures.State.{State}
use Rattle.command_types.specs.Machine.{answer_to}
use Rattle.command_types.proofs.StopFacts.{is_desks, machine_plain as machine_is_no_desk}
use Rattle.house.specs.Calling.{is_disk_fault}

-- what a desk alone answers has the disk's fault among it
no_fault : (answer : Answer) → is_desks answer ≡ false → is_disk_fault answer ≡ false
no_fault (No DiskFault) plain = cc
no_fault answer plain = refl

-- the machine never answers so
pub machine_plain : (s : State) (ask : Ask) → is_disk_fault (answer_to s ask) ≡ false
machine_plain s ask = no_fault (answer_to s ask) (machine_is_no_desk s ask)
