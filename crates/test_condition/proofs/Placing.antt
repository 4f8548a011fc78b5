-- Where the cells of the test are.
use Rattle.std.proofs.Common.{◌≡◌, ℕ, arith, sym, ap, ◌∙◌}
use Rattle.larch_actions.specs.Layout.{layout_of}
use Rattle.nub_rule.specs.Known.{Shape}
use Rattle.barrier_once.specs.declared.share.RoundWorld.{RoundWorld}
use Rattle.barrier_once.specs.Calls.{IsPlaced}
use Rattle.command_rounds.specs.Playing.{round_at}

pub placed_in : (p : Shape RoundWorld) (w : RoundWorld) (n : ℕ) → p.layout ≡ layout_of n 3 1 0 → p.world ≡ w → w.at ≡ round_at → w.parties ≡ n → IsPlaced p round_at
placed_in p w n layout world at parties =
    let mutexes = ap (λ l. l.mutexes) layout in
    let conditions = ap (λ l. l.conditions) layout in
    record {
      world = sym (ap (λ (v : RoundWorld). v.at) world ∙ at);
      parties = ap (λ l. l.threads) layout ∙ sym (ap (λ (v : RoundWorld). v.parties) world ∙ parties);
      bar = omega arith;
      cond = omega arith;
      sum = omega arith;
      once = omega arith;
    }
