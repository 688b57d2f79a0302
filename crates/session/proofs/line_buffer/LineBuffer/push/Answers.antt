use Rattle.std.proofs.Common.{◌∙◌, ◌++◌, ◌∷◌, [], take, ap, sym, arith}
use Rattle.session.proofs.BufferFacts.{take_room, take_full}
use Rattle.session.proofs.line_buffer.LineBuffer.push.Goals as goal

pub returns-then-len-lt-ROOM : goal.returns-then-len-lt-ROOM
returns-then-len-lt-ROOM c =
    c.push_reserved.ensures.items ∙ take_room c.self.inside.bytes.items 4097 c.args.byte (omega arith)
    ∙ ap (λ v. take 4097 (v ++ c.args.byte ∷ [])) c.self.view_is

pub returns-else-len-lt-ROOM : goal.returns-else-len-lt-ROOM
returns-else-len-lt-ROOM c =
    sym c.self.view_is ∙ take_full c.self.inside.bytes.items 4097 c.args.byte (omega arith) (omega arith) ∙ ap (λ v. take 4097 (v ++ c.args.byte ∷ [])) c.self.view_is
