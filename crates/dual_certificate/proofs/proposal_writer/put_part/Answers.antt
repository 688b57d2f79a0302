use Rattle.std.proofs.Common.{◌≡◌, ◌∙◌, ◌++◌, ap, codes, decimal, append_assoc}
use Rattle.network_laws.specs.Networks.{gross}
use Rattle.dual_certificate.specs.ProposalText.{product_text, rows_text, pots_text}
use Rattle.dual_certificate.proofs.TextFacts.{behind}
use Rattle.dual_certificate.proofs.proposal_writer.put_part.Goals as goal

pub returns : goal.returns
returns c =
    let roster = c.args.roster.now in
    let new = c.args.new.now in
    let start = c.args.out.now.items in
    let head = product_text roster c.args.product c.args.old.now new.network in
    let rows = rows_text roster new.network.rows in
    let pots = pots_text roster 0 new.potentials in
    let bound = codes "bound " ++ decimal (gross new.network) in
    let network = c.network-network.ensures.value in
    let least = c.gross.ensures ∙ ap gross network in
    let after_head = c.put_head.new.out.items in
    let after_rows = c.put_rows.new.out.items in
    let after_pots = c.put_pots.new.out.items in
    let after_bound = c.put_number.new.out.items in
    let end = c.extend_from_slice.new.self.items in
    let first : after_head ≡ start ++ head = rw network at c.in_ok-put_head.ensures in
    let second : after_rows ≡ after_head ++ rows = rw network at c.in_ok-put_rows.ensures in
    let third : after_pots ≡ after_rows ++ pots = rw c.potentials.ensures.value at c.in_ok-put_pots.ensures in
    let fourth : after_bound ≡ after_pots ++ bound = c.in_ok-put_number.ensures ∙ append_assoc after_pots (codes "bound ") (decimal c.gross.result) ∙ ap (λ n. after_pots ++ (codes "bound " ++ decimal n)) least in
    let last : end ≡ after_pots ++ (bound ++ codes "\n") = behind after_pots after_bound end bound (codes "\n") fourth c.in_ok-extend_from_slice.ensures.items in
    behind start after_pots end (head ++ rows ++ pots) (bound ++ codes "\n")
    (behind start after_rows after_pots (head ++ rows) pots (behind start after_head after_rows head rows first second) third)
    last
