use Rattle.std.proofs.Common.{◌≡◌, ℕ, List, ◌++◌, length, take, drop, replicate, IsTrue, sym, ap}
use Rattle.std.proofs.Math.Seq.{take-append_seam}
use Rattle.std.proofs.lemmas.List.{drop-replicate}
use Rattle.units_core.specs.declared.limits.TheConstants.{MOST_NAME}
use Rattle.units_core.specs.Name.{is_name, IsKeptName}

-- a name that is written over zeros is kept as names are
pub kept : (text : List ℕ) → IsTrue (is_name text) → IsKeptName (text ++ drop (length text) (replicate MOST_NAME 0)) (length text)
kept text form =
    let front : take (length text) (text ++ drop (length text) (replicate MOST_NAME 0)) ≡ text = take-append_seam text _ in
    record {
      padded = rw front (ap (λ zs. text ++ zs) (sym (drop-replicate (length text) MOST_NAME 0)));
      sized = rw front;
      form = rw front form;
    }
