use Rattle.standby_wire.proofs.WrittenFacts.{hello_read, none_read, entry_read, same_read}
use Rattle.standby_wire.proofs.laws.writing_is_read.Goals as goal

pub returns : goal.returns
returns c = record {
  hello = λ rows at name more small. hello_read rows at more small name;
  none = λ rows at more small. none_read rows at more small;
  entry = λ rows at position bytes entry more small fits spells. entry_read rows at more small position bytes entry fits spells;
  same = λ rows at position bytes more small. same_read rows at more small position bytes;
}
