use Rattle.std.proofs.Common.{◌∙◌, subst, arith}
use Rattle.outside.specs.Flow.{Takes, TakesFront}
use Rattle.compress_server.specs.Seen.{output_of}
use Rattle.compress_server.proofs.EndFacts.{rose_later}
use Rattle.compress_server.proofs.ServeFacts.{ok_holds, err_holds, err_more, line_cut_second, line_told}
use Rattle.compress_server.proofs.seating.tell_history.Goals as goal

pub returns-then-is_err-2 : goal.returns-then-is_err-2
returns-then-is_err-2 g c =
    let taken = g.K.Sink.taken in
    let faults = g.K.Sink.faults in
    let old = c.args.output.now in
    let mid = c.write_all.new.sink in
    let late = c.write_all-2.new.sink in
    let front = err_holds c.write_all-2.result c.is_err-2.result _ c.is_err-2.ensures.value c.if-is_err-2.true c.write_all-2.ensures.front in
    let rose = err_holds c.write_all-2.result c.is_err-2.result _ c.is_err-2.ensures.value c.if-is_err-2.true c.write_all-2.ensures.counts.1 in
    line_cut_second (output_of (taken old) (faults old)) (output_of (taken mid) (faults mid)) (output_of (taken late) (faults late)) c.args.length
    (ok_holds c.write_all.result c.is_err.result _ c.is_err.ensures.value c.if-is_err.false c.write_all.ensures.takes)
    (subst (λ text. TakesFront (taken mid) (taken late) text) (c.as_bytes.ensures.value ∙ c.format.ensures.text) front)
    (rose_later (faults old) (faults mid) (faults late) c.write_all.ensures.counts.0 rose)

pub returns : goal.returns
returns g c =
    let taken = g.K.Sink.taken in
    let faults = g.K.Sink.faults in
    let old = c.args.output.now in
    let mid = c.write_all.new.sink in
    let late = c.write_all-2.new.sink in
    let last = c.write_all-3.new.sink in
    let second = ok_holds c.write_all-2.result c.is_err-2.result _ c.is_err-2.ensures.value c.if-is_err-2.false c.write_all-2.ensures.takes in
    line_told (output_of (taken old) (faults old)) (output_of (taken mid) (faults mid)) (output_of (taken late) (faults late)) (output_of (taken last) (faults last)) c.args.length
    (ok_holds c.write_all.result c.is_err.result _ c.is_err.ensures.value c.if-is_err.false c.write_all.ensures.takes)
    (subst (λ text. Takes (taken mid) (taken late) text) (c.as_bytes.ensures.value ∙ c.format.ensures.text) second)
    c.write_all-3.result c.is_ok.result c.is_ok.ensures.value c.write_all-3.ensures.takes c.write_all-3.ensures.front
    (err_more c.write_all-3.result _ _ (λ rose. rose_later (faults old) (faults late) (faults last) (omega (arith, c.write_all.ensures.counts.0, c.write_all-2.ensures.counts.0)) rose) c.write_all-3.ensures.counts.1)
