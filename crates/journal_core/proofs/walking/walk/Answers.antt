use Rattle.std.proofs.Common.{◌≡◌, List, ℕ, Option, Err, IfErr, length, take, drop, min, arith, sym, subst, rules, ap, ◌∙◌}
use Rattle.std.proofs.lemmas.List.{take_at}
use Rattle.outside.specs.Disk.{History, Reads}
use Rattle.journal_core.specs.Holds.{limit}
use Rattle.journal_core.specs.Walk.{IsBadLead, FindsFault}
use Rattle.journal_core.proofs.WalkFacts.{IsPiece, piece_of, fault_of, ends_of, form_of}
use Rattle.journal_core.proofs.LeadFacts.{bad_is_fault, finds}
use Rattle.journal_core.proofs.walking.walk.Goals as goal

pub returns-in_err-walked-clause-fault : goal.returns-in_err-walked-clause-fault
returns-in_err-walked-clause-fault g c =
    let was = g.D.Disk.history c.args.disk.now in
    let into = c.read.new.into in
    let fault = c.in_err-walked.field-0.0 in
    let room : length c.deref_mut.result.now ≡ min c.in_ok-length.length limit = c.deref_mut.ensures.len ∙ c.in_ok-bytes.ensures.len ∙ c.min.ensures in
    let reads = subst (λ (o : Option History). Reads o 0 c.in_ok-read.read c.deref_mut.result.now into) c.length.ensures.same c.in_ok-read.ensures.reads in
    let piece = piece_of was c.in_ok-length.length c.in_ok-read.read c.deref_mut.result.now into c.in_ok-length.ensures.size room reads in
    let size : length into ≡ c.in_ok-bytes.bytes.len = omega (arith, c.read.auto.into, c.deref_mut.ensures.len) in
    let same : c.truncate.new.self.items ≡ take c.in_ok-read.read into =
    c.truncate.ensures.items ∙ ap (λ (l : List ℕ). take c.in_ok-read.read l) (take_at into (drop (length into) c.in_ok-bytes.bytes.items) c.in_ok-bytes.bytes.len size) in
    let is : c.from_residual-in_err-walked.result ≡ Err fault = search rules in
    subst (λ r. IfErr r (FindsFault was)) (sym is)
    (fault_of was (take c.in_ok-read.read into) fault piece (bad_is_fault (take c.in_ok-read.read into) fault (subst (λ (l : List ℕ). IsBadLead l fault) same c.in_err-walked.ensures.fault)))

pub returns-clause-found : goal.returns-clause-found
returns-clause-found g c =
    let was = g.D.Disk.history c.args.disk.now in
    let into = c.read.new.into in
    let room : length c.deref_mut.result.now ≡ min c.in_ok-length.length limit = c.deref_mut.ensures.len ∙ c.in_ok-bytes.ensures.len ∙ c.min.ensures in
    let reads = subst (λ (o : Option History). Reads o 0 c.in_ok-read.read c.deref_mut.result.now into) c.length.ensures.same c.in_ok-read.ensures.reads in
    let piece = piece_of was c.in_ok-length.length c.in_ok-read.read c.deref_mut.result.now into c.in_ok-length.ensures.size room reads in
    let size : length into ≡ c.in_ok-bytes.bytes.len = omega (arith, c.read.auto.into, c.deref_mut.ensures.len) in
    let same : c.truncate.new.self.items ≡ take c.in_ok-read.read into =
    c.truncate.ensures.items ∙ ap (λ (l : List ℕ). take c.in_ok-read.read l) (take_at into (drop (length into) c.in_ok-bytes.bytes.items) c.in_ok-bytes.bytes.len size) in
    finds was c.in_ok-walked.walked (subst (IsPiece was) (sym (c.in_ok-walked.ensures.walked.1 ∙ same)) piece) c.in_ok-walked.ensures.walked.0

pub returns-clause-ends : goal.returns-clause-ends
returns-clause-ends g c =
    let was = g.D.Disk.history c.args.disk.now in
    let into = c.read.new.into in
    let room : length c.deref_mut.result.now ≡ min c.in_ok-length.length limit = c.deref_mut.ensures.len ∙ c.in_ok-bytes.ensures.len ∙ c.min.ensures in
    let reads = subst (λ (o : Option History). Reads o 0 c.in_ok-read.read c.deref_mut.result.now into) c.length.ensures.same c.in_ok-read.ensures.reads in
    let piece = piece_of was c.in_ok-length.length c.in_ok-read.read c.deref_mut.result.now into c.in_ok-length.ensures.size room reads in
    let size : length into ≡ c.in_ok-bytes.bytes.len = omega (arith, c.read.auto.into, c.deref_mut.ensures.len) in
    let same : c.truncate.new.self.items ≡ take c.in_ok-read.read into =
    c.truncate.ensures.items ∙ ap (λ (l : List ℕ). take c.in_ok-read.read l) (take_at into (drop (length into) c.in_ok-bytes.bytes.items) c.in_ok-bytes.bytes.len size) in
    ends_of was c.in_ok-walked.walked (subst (IsPiece was) (sym (c.in_ok-walked.ensures.walked.1 ∙ same)) piece) c.in_ok-walked.ensures.walked.0

pub returns-clause-form : goal.returns-clause-form
returns-clause-form g c =
    let was = g.D.Disk.history c.args.disk.now in
    let into = c.read.new.into in
    let room : length c.deref_mut.result.now ≡ min c.in_ok-length.length limit = c.deref_mut.ensures.len ∙ c.in_ok-bytes.ensures.len ∙ c.min.ensures in
    let reads = subst (λ (o : Option History). Reads o 0 c.in_ok-read.read c.deref_mut.result.now into) c.length.ensures.same c.in_ok-read.ensures.reads in
    let piece = piece_of was c.in_ok-length.length c.in_ok-read.read c.deref_mut.result.now into c.in_ok-length.ensures.size room reads in
    let size : length into ≡ c.in_ok-bytes.bytes.len = omega (arith, c.read.auto.into, c.deref_mut.ensures.len) in
    let same : c.truncate.new.self.items ≡ take c.in_ok-read.read into =
    c.truncate.ensures.items ∙ ap (λ (l : List ℕ). take c.in_ok-read.read l) (take_at into (drop (length into) c.in_ok-bytes.bytes.items) c.in_ok-bytes.bytes.len size) in
    form_of was c.in_ok-walked.walked (subst (IsPiece was) (sym (c.in_ok-walked.ensures.walked.1 ∙ same)) piece) c.in_ok-walked.ensures.walked.0
