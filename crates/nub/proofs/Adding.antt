-- What calls add, one after the other.
use Rattle.std.proofs.Common.{◌≡◌, List, [], ◌∷◌, ◌++◌, ap, subst, sym, ◌∙◌, append_assoc, append-nil}
use Rattle.larch_actions.specs.declared.event.Event.{Event}
use Rattle.larch_actions.specs.declared.event.Version.{Version}
use Rattle.larch_actions.specs.Actions.{IsLegal, StartsWith, by_thread}
use Rattle.nub_rule.specs.Known.{Known, Makes}
use Rattle.nub.specs.Rest.{Added, Adds}

pub begins_on : (x y z : List Event) → StartsWith y x → StartsWith z y → StartsWith z x
begins_on x y z a b = (a.0 ++ b.0, b.1 ∙ ap (λ l. l ++ b.0) a.1 ∙ append_assoc x a.0 b.0)

pub grown : (x y z : List Event) (e : Event) → z ≡ (x ++ y) ++ e ∷ [] → StartsWith z x
grown x y z e is = (y ++ e ∷ [], is ∙ append_assoc x y (e ∷ []))

-- a legal history of one version, as that of the same list by another name
pub legal_as : (v w : Version) (xs ys : List Event) → w ≡ v → xs ≡ ys → IsLegal v xs → IsLegal w ys
legal_as v w xs ys same is legal = subst (λ (z : Version × List Event). IsLegal z.0 z.1) (λ i. (sym same i, is i)) legal

module _ {W V H : Type 0} where
  pub added : (es : List Event) (e : Event) (a b : Known V H W) → Adds es e a b → Added (es ++ e ∷ []) a b
  added es e a b h = record { mine = h.mine ∙ append_assoc a.mine es (e ∷ []); grows = h.grows }

  pub added_on : (es fs : List Event) (a b c : Known V H W) → Added es a b → Added fs b c → Added (es ++ fs) a c
  added_on es fs a b c h k = record { mine = k.mine ∙ ap (λ l. l ++ fs) h.mine ∙ append_assoc a.mine es fs; grows = begins_on a.seen b.seen c.seen h.grows k.grows }

  pub adds_on : (es fs : List Event) (f : Event) (a b c : Known V H W) → Added es a b → Adds fs f b c → Adds (es ++ fs) f a c
  adds_on es fs f a b c h k = record {
    mine = k.mine ∙ ap (λ l. (l ++ fs) ++ f ∷ []) h.mine ∙ ap (λ l. l ++ f ∷ []) (append_assoc a.mine es fs);
    legal = k.legal;
    grows = begins_on a.seen b.seen c.seen h.grows k.grows;
    ends = k.ends;
    own = k.own;
  }

  -- what one event adds
  pub adds_one : (e : Event) (a b : Known V H W) → Makes e a b → b.number ≡ a.number → b.version ≡ a.version → Adds [] e a b
  adds_one e a b made number version = record {
    mine = made.3 ∙ ap (λ l. l ++ e ∷ []) (sym (append-nil a.mine));
    legal = legal_as a.version b.version ((a.seen ++ made.0) ++ e ∷ []) b.seen version (sym made.2) made.1.legal;
    grows = grown a.seen made.0 b.seen e made.2;
    ends = (a.seen ++ made.0, made.2);
    own = ap (λ n. by_thread n b.seen) number ∙ (ap (by_thread a.number) made.2 ∙ (made.1.own ∙ sym made.3));
  }
