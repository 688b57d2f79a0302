-- What was replied, as contracts see it.
use Rattle.standby_wire.specs.Replied.{Replied}
use Rattle.standby_wire.specs.declared.hearing.Noted.{Noted}

-- a question, the offset at which its reply was due, and that reply
abbrev pub replied_of : Noted → Replied
replied_of noted = record { question = noted.question.value; due = noted.due.value; reply = noted.reply.value }
