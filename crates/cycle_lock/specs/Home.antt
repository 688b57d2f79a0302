-- What is said of a desk, of the home that it lies in.
use Rattle.cycle_lock.specs.declared.home.Home.{Home}

abbrev pub of_desk : {T A : Type 0} → (T → A) → Home T → A
of_desk f home = f home.desk
