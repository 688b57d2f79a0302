-- What listeners and doors at a socket show.
use Rattle.std.specs.Prelude.{ℕ, Option}
use Rattle.doors.specs.declared.socket_door.SocketDoor.{SocketDoor}
use Rattle.doors.specs.declared.socket_listener.SocketListener.{SocketListener}

-- how many calls of a door failed
abbrev pub accept_faults : {R L Stream : Type 0} → SocketDoor R L Stream → ℕ
accept_faults d = d.faults

-- how many calls of a listener failed, and how many doors came back of which a call had failed
abbrev pub listen_faults : {R : Type 0} → SocketListener R → ℕ
listen_faults s = s.faults

-- for how many seconds a call of a connection of this door may wait; none: without end
abbrev pub door_idle : {R L Stream : Type 0} → SocketDoor R L Stream → Option ℕ
door_idle d = d.idle

-- the same of the doors that a listener hands out
abbrev pub listen_idle : {R : Type 0} → SocketListener R → Option ℕ
listen_idle s = s.idle
