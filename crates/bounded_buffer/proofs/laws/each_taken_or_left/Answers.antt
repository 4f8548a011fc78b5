use Rattle.std.proofs.Common.{sym, ap, ◌∙◌, take, ◌++◌}
use Rattle.std.specs.List.{enumerate_from}
use Rattle.std.proofs.lemmas.List.{take-append-drop, length-take-le}
use Rattle.std.proofs.lemmas.List.FromFn.{length-enumerate_from}
use Rattle.std.proofs.lemmas.List.Sorted.{length_permutation}
use Rattle.bounded_buffer.specs.Plain.{all_puts, all_takes}
use Rattle.bounded_buffer.proofs.laws.each_taken_or_left.Goals as goal

pub returns : goal.returns
returns g c = λ threads values locks m q at.
    let rule = locks.kept m q at in
    let taken = take q.taken rule.log in
    record {
      shares = locks.shares;
      each_share = locks.each_share;
      rule = rule;
      whole = sym (take-append-drop q.taken rule.log) ∙ ap (λ l. taken ++ l) (sym rule.left);
      put_count = sym (length_permutation (all_puts m locks.shares) (enumerate_from 0 rule.log) rule.puts) ∙ length-enumerate_from 0 rule.log;
      taken_count = sym (length_permutation (all_takes m locks.shares) (enumerate_from 0 taken) rule.takes) ∙ (length-enumerate_from 0 taken ∙ length-take-le q.taken rule.log rule.taken);
    }
