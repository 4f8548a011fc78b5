use Rattle.std.proofs.Common.{◌≡◌, ◌+◌, ◌∙◌, ℕ, List, ap, sym, refl, arith}
use Rattle.trace_core.specs.Names.{set_from}
use Rattle.trace_core.proofs.UsualTexts.{stands_then, stands_as, stands_end, signal_text, no_members, never}
use Rattle.trace_core.proofs.usual.action.signal.Goals as goal

pub returns : goal.returns
returns c =
    let nobody = c.empty.ensures.members in record {
      named = (c.in_ok-c.ensures.name.below, λ t h. never _ (nobody t) h);
      made = c.empty.ensures.list ∙ sym (ap (λ (ns : List ℕ). set_from ns) (no_members c.empty.result nobody));
      text =
          let prefix = stands_then (stands_then (stands_then (c.if-not-has_eight.ensures refl) c.in_ok-c.ensures.name.text) (c.if-not-has_four.ensures refl)) (c.if-not-has_byte.ensures refl) in
          stands_end (let e : c.in_ok-c.c.end + 4 + 1 ≡ c.in_ok-c.c.end + 5 = omega arith in e) (stands_as (signal_text c.in_ok-c.c.value c.empty.result nobody) prefix);
    }
