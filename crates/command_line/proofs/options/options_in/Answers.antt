use Rattle.std.proofs.Common.{◌≡◌, ◌∙◌, Option, None, Some, subst, sym, codes}
use Rattle.clap.specs.Words.{found_of}
use Rattle.clap.proofs.WalkLemmas.{first_value-rows}
use Rattle.command_line.specs.Grammar.{Text}
use Rattle.command_line.specs.Reading.{IsNumberOr, IsStop}
use Rattle.command_line.proofs.options.options_in.Goals as goal

never : {A : Type 0} (o : Option A) (x : A) → o ≡ None → o ≡ Some x → ⊥
never o x p q = cc

pub returns-in_err-get_str-clause-none : goal.returns-in_err-get_str-clause-none
returns-in_err-get_str-clause-none c = rw c.from_residual.ensures (λ o h.
    let none = sym (first_value-rows (found_of c.args.matches.now) (codes "dir")) ∙ sym c.in_err-get_str.ensures in
    never _ _ none h.directory)

pub returns-in_err-read_count-clause-none : goal.returns-in_err-read_count-clause-none
returns-in_err-read_count-clause-none c = rw c.from_residual-in_err-read_count.ensures (λ o h. c.in_err-read_count.ensures.none o.walkers
    (subst (λ (x : Option Text). IsNumberOr 2 x o.walkers) (sym (c.get_str-2.ensures ∙ first_value-rows (found_of c.args.matches.now) (codes "walkers"))) h.walkers))

pub returns-in_err-read_count-2-clause-none : goal.returns-in_err-read_count-2-clause-none
returns-in_err-read_count-2-clause-none c = rw c.from_residual-in_err-read_count-2.ensures (λ o h. c.in_err-read_count-2.ensures.none o.parsers
    (subst (λ (x : Option Text). IsNumberOr 4 x o.parsers) (sym (c.get_str-3.ensures ∙ first_value-rows (found_of c.args.matches.now) (codes "parsers"))) h.parsers))

pub returns-in_err-read_count-3-clause-none : goal.returns-in_err-read_count-3-clause-none
returns-in_err-read_count-3-clause-none c = rw c.from_residual-in_err-read_count-3.ensures (λ o h. c.in_err-read_count-3.ensures.none o.mergers
    (subst (λ (x : Option Text). IsNumberOr 2 x o.mergers) (sym (c.get_str-4.ensures ∙ first_value-rows (found_of c.args.matches.now) (codes "mergers"))) h.mergers))

pub returns-in_err-read_stop-clause-none : goal.returns-in_err-read_stop-clause-none
returns-in_err-read_stop-clause-none c = rw c.from_residual-in_err-read_stop.ensures (λ o h. c.in_err-read_stop.ensures.none o.stop_after
    (subst (λ (x : Option Text). IsStop x o.stop_after) (sym (c.get_str-5.ensures ∙ first_value-rows (found_of c.args.matches.now) (codes "stop-after"))) h.stop_after))

pub returns-clause-held : goal.returns-clause-held
returns-clause-held c =
    let found = found_of c.args.matches.now in
    record {
      directory = sym (first_value-rows found (codes "dir")) ∙ sym c.in_ok-get_str.ensures;
      walkers = subst (λ (x : Option Text). IsNumberOr 2 x c.in_ok-read_count.field-0) (c.get_str-2.ensures ∙ first_value-rows found (codes "walkers")) c.in_ok-read_count.ensures.number;
      parsers = subst (λ (x : Option Text). IsNumberOr 4 x c.in_ok-read_count-2.field-0) (c.get_str-3.ensures ∙ first_value-rows found (codes "parsers")) c.in_ok-read_count-2.ensures.number;
      mergers = subst (λ (x : Option Text). IsNumberOr 2 x c.in_ok-read_count-3.field-0) (c.get_str-4.ensures ∙ first_value-rows found (codes "mergers")) c.in_ok-read_count-3.ensures.number;
      stop_after = subst (λ (x : Option Text). IsStop x c.in_ok-read_stop.field-0) (c.get_str-5.ensures ∙ first_value-rows found (codes "stop-after")) c.in_ok-read_stop.ensures.number;
    }
