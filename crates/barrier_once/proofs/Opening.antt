-- The rule holds at first.
use Rattle.std.proofs.Common.{◌≡◌, ℕ, ◌+◌, ◌*◌, ◌≤◌, zero, suc, List, [], ◌∷◌, map, Some, None, arith, sym, ap, subst, ◌∙◌, refl, inl}
use Rattle.std.specs.List.{range_with_len}
use Rattle.std.proofs.lemmas.List.FromFn.{length-map-range_with_len}
use mathlib.Core.Option.{some, some-injective, some-ne-none}
use lib.ListN.{get_elem?}
use Rattle.nub_rule.specs.Ends.{firsts}
use Rattle.nub_rule.specs.Items.{Each}
use Rattle.barrier_once.specs.declared.cell.Cell.{Cell}
use Rattle.barrier_once.specs.declared.cell.Cell.TheVariants.{Bar, Sum, Once}
use Rattle.barrier_once.specs.declared.share.RoundShare.{RoundShare}
use Rattle.barrier_once.specs.declared.share.RoundWorld.{RoundWorld}
use Rattle.barrier_once.specs.Rounds.{added_by, AreRounds, fresh_share, IsParty, with_arrivals}

each_fresh : (ns : List ℕ) → Each (λ t s. s ≡ fresh_share) (map (λ t. fresh_share) ns)
each_fresh [] t s e = absurd (some-ne-none s (sym e))
each_fresh (n ∷ ns) zero s e = sym (some-injective fresh_share s e)
each_fresh (n ∷ ns) (suc t) s e = each_fresh ns t s e

none_added : (ns : List ℕ) → added_by (map (λ t. fresh_share) ns) ≡ 0
none_added [] = refl
none_added (n ∷ ns) = let h = none_added ns in omega arith

none_arrived : (ns : List ℕ) → with_arrivals 1 (map (λ t. fresh_share) ns) ≡ 0
none_arrived [] = refl
none_arrived (n ∷ ns) = let h = none_arrived ns in omega arith

none_of : (j : ℕ) → 0 ≡ 2 * j → j ≡ 0
none_of j e = omega arith

nothing_times : (t : ℕ) → 0 ≡ 0 * (t + 1)
nothing_times t = omega arith

none_some : (v : ℕ) → None ≡ Some v → ⊥
none_some v e = cc

fresh_party : (t : ℕ) → IsParty 0 t fresh_share
fresh_party t = record {
  arrivals = inl refl;
  few = omega arith;
  left = omega arith;
  leaves = inl refl;
  odd = λ j e. absurd (omega arith);
  even = λ j e. inl (nothing_times t ∙ sym (ap (λ k. k * (t + 1)) (none_of j e)));
}

-- at round 0 with nobody arrived, with the sum 0 and an empty once cell
pub rounds_begin : (w : RoundWorld) (values : List Cell) (n : ℕ) → 1 ≤ n → n ≤ 64 → n ≡ w.parties → get_elem? values w.at.bar.0 ≡ some (Bar 0 0) → get_elem? values w.at.sum.0 ≡ some (Sum 0)
    → get_elem? values w.at.once.0 ≡ some (Once None) → AreRounds w values (firsts (λ t. fresh_share) n)
rounds_begin w values n some_one few parties bar sum once =
    let ns = range_with_len 0 n in
    record {
      round = 0;
      arrived = 0;
      value = None;
      parties = length-map-range_with_len {X = RoundShare} (λ t. fresh_share) 0 n ∙ parties;
      few = omega arith;
      bar = bar;
      sum = sum ∙ ap (λ k. some (Sum k)) (sym (none_added ns));
      once = once;
      each = λ t s e. subst (IsParty 0 t) (sym (each_fresh ns t s e)) (fresh_party t);
      count = sym (none_arrived ns);
      below = omega arith;
      agreed = record {
        same = λ t s e v is. absurd (none_some v (sym (ap (λ (u : RoundShare). u.agreed) (each_fresh ns t s e)) ∙ is));
        within = λ v is. absurd (none_some v is);
        none = λ is t s e. ap (λ (u : RoundShare). u.offered) (each_fresh ns t s e);
        origin = λ v is. absurd (none_some v is);
      };
    }
