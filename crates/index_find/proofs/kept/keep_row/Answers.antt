use Rattle.std.proofs.Common.{◌≡◌, ◌∙◌, false, None, ap, inr, refl, sym, arith}
use Rattle.std.specs.Option.{option_copied}
use Rattle.index_find.proofs.Sieving.{none_last}
use Rattle.index_find.proofs.kept.keep_row.Goals as goal

pub returns-then-is_none : goal.returns-then-is_none
returns-then-is_none c =
    let unwanted : c.args.wanted ≡ false = (let x = c.if-not-wanted.true in grind arith) in
    let none : c.last_path.result ≡ None = (let x = c.is_none.ensures in let y = c.if-is_none.true in grind arith) in
    inr (unwanted, none_last c.args.draft.now.hits (sym c.last_path.ensures ∙ ap option_copied none), refl)
