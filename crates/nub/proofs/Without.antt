-- Lists of numbers with one left out, and lists of stored events with one more.
use Rattle.std.proofs.Common.{◌≡◌, length, Bool, ℕ, List, [], ◌∷◌, ◌++◌, map, sym, ap, ◌∙◌, subst, refl, arith, cond, eqb, true, false}
use Rattle.std.proofs.lemmas.Bool.Decides.{nat_tests}
use Rattle.std.proofs.lemmas.List.{map-append}
use Rattle.larch_actions.specs.declared.event.Event.{Event}
use Rattle.larch_actions.specs.Sets.{mem, without}
use Rattle.nub_rule.specs.declared.package.Entry.{Entry}
use Rattle.nub_rule.specs.Items.{Small}
use Rattle.std.proofs.Common.{◌<◌, ◌≤◌, None, Some, Option as Opt, ⊎_elim, rules}
use Rattle.std.proofs.lemmas.Bool.{cases_lt}
use Rattle.nub_rule.specs.declared.view.Pen.TheVariants.{No, Read}
use Rattle.nub_rule.specs.Parts.{MayRecord}
use Rattle.nub_rule.specs.Known.{Known, Makes}
use Rattle.nub_rule.specs.Stored.{ComesNext}
use Rattle.nub.specs.Rest.{HasStored}
use mathlib.Core.Option.{some}
use lib.ListN.{get_elem?}
use Rattle.std.proofs.Common.{set}
use Rattle.atomic_table.proofs.Lists.{at_set, set_else}

eqb-own : (n : ℕ) → eqb n n ≡ true
eqb-own n = grind (arith, nat_tests)

pub mem_own : (t : ℕ) (xs : List ℕ) → mem t (t ∷ xs) ≡ true
mem_own t xs = ap (λ (b : Bool). cond b true (mem t xs)) (eqb-own t)

cond-same : (b : Bool) → cond b true true ≡ true
cond-same true = refl
cond-same false = refl

pub mem_last : (t : ℕ) (xs : List ℕ) → mem t (xs ++ t ∷ []) ≡ true
mem_last t [] = mem_own t []
mem_last t (x ∷ xs) = ap (λ (b : Bool). cond (eqb x t) true b) (mem_last t xs) ∙ cond-same (eqb x t)

pub without_own : (t : ℕ) (xs : List ℕ) → without t (t ∷ xs) ≡ without t xs
without_own t xs = ap (λ (b : Bool). cond b (without t xs) (t ∷ without t xs)) (eqb-own t)

twice-at : (t x : ℕ) (xs : List ℕ) (b : Bool) → eqb x t ≡ b → without t (without t xs) ≡ without t xs → without t (cond b (without t xs) (x ∷ without t xs)) ≡ cond b (without t xs) (x ∷ without t xs)
twice-at t x xs true e h = h
twice-at t x xs false e h = ap (λ (b : Bool). cond b (without t (without t xs)) (x ∷ without t (without t xs))) e ∙ ap (λ (l : List ℕ). x ∷ l) h

pub without_twice : (t : ℕ) (xs : List ℕ) → without t (without t xs) ≡ without t xs
without_twice t [] = refl
without_twice t (x ∷ xs) = twice-at t x xs (eqb x t) refl (without_twice t xs)

-- an event stored with its number
pub stored_more : (es es' : List Entry) (ns ns' : List ℕ) (ms ms' : List Event) (k : ℕ) (e : Event) → (map (λ x. x.number) es ≡ ns) × (map (λ x. x.event) es ≡ ms) → es' ≡ es ++ record { number = k; event = e } ∷ [] → ns' ≡ ns ++ k ∷ [] → ms' ≡ ms ++ e ∷ [] → (map (λ x. x.number) es' ≡ ns') × (map (λ x. x.event) es' ≡ ms')
stored_more es es' ns ns' ms ms' k e old new n m = let x : Entry = record { number = k; event = e } in (
  ap (map (λ x. x.number)) new ∙ (map-append (λ x. x.number) es (x ∷ []) ∙ (ap (λ (l : List ℕ). l ++ k ∷ []) old.0 ∙ sym n)),
  ap (map (λ x. x.event)) new ∙ (map-append (λ x. x.event) es (x ∷ []) ∙ (ap (λ (l : List Event). l ++ e ∷ []) old.1 ∙ sym m)),
)

-- the first of small numbers is small
pub first_small : (n x : ℕ) (xs ys : List ℕ) → ys ≡ x ∷ xs → Small n ys → x < n
first_small n x xs ys e h = let P : List ℕ → Type 0 = λ l. Small n l in let s : Small n (x ∷ xs) = subst P e h in s.0

pub less_owed : (t : ℕ) (xs : List ℕ) → xs ≡ t ∷ [] → without t xs ≡ []
less_owed t xs e = ap (without t) e ∙ without_own t []

module _ {T H W : Type 0} where
  -- an event that was made with the pen comes next in the list
  pub comes_next : (traced : Bool) (a b c : Known T H W) (e : Event) → b ≡ record a { part = record a.part { pen = b.pen }; next = b.next } → (traced ≡ true → b.pen ≡ Read b.next) → Makes e b c → c.next ≡ b.next → c.entries ≡ b.entries → c.lost ≡ b.lost
      → HasStored traced a → traced ≡ true → ComesNext e c
  comes_next traced a b c e begin next makes same entries lost has t l =
      let k = b.next in
      let number = makes.1.number k (next t) in
      let old = has t (sym (ap (λ (z : Known T H W). z.lost) begin) ∙ (sym lost ∙ l)) in
      let stored : c.entries ≡ a.entries = entries ∙ ap (λ (z : Known T H W). z.entries) begin in (
        ap (λ (es : List Entry). map (λ x. x.number) es ++ c.next ∷ []) stored
            ∙ (ap (λ (ns : List ℕ). ns ++ c.next ∷ []) (old.0 ∙ sym (ap (λ (z : Known T H W). z.places) begin)) ∙ (ap (λ (n : ℕ). b.places ++ n ∷ []) (same ∙ number) ∙ sym makes.4)),
        ap (λ (es : List Entry). map (λ x. x.event) es ++ e ∷ []) stored
            ∙ (ap (λ (ms : List Event). ms ++ e ∷ []) (old.1 ∙ sym (ap (λ (z : Known T H W). z.mine) begin)) ∙ sym makes.3),
      )

  -- an event was made with the pen between a and d, and stored
  pub stored_by : (traced : Bool) (a b c d : Known T H W) (e : Event) → b ≡ record a { part = record a.part { pen = b.pen }; next = b.next } → MayRecord traced b.life b.pen → (traced ≡ true → b.pen ≡ Read b.next) → Makes e b c → c.next ≡ b.next → c.entries ≡ b.entries → c.lost ≡ b.lost
      → d ≡ record c { part = record c.part { pen = No }; entries = d.entries; space = d.space }
      → ((x : Event) → Some e ≡ Some x → traced ≡ true → d.lost ≡ false → (c.lost ≡ false) × (d.entries ≡ c.entries ++ record { number = c.next; event = x } ∷ []))
      → HasStored traced a → HasStored traced d
  stored_by traced a b c d e begin tell next makes same entries lost end store has t l =
      let k = b.next in
      let more = store e refl t l in
      let number = makes.1.number k (next t) in
      stored_more a.entries d.entries a.places d.places a.mine d.mine k e
      (has t (sym (ap (λ (z : Known T H W). z.lost) begin) ∙ (sym lost ∙ more.0)))
      (more.1 ∙ (ap (λ (n : ℕ). c.entries ++ record { number = n; event = e } ∷ []) same ∙ ap (λ (es : List Entry). es ++ record { number = k; event = e } ∷ []) (entries ∙ ap (λ (z : Known T H W). z.entries) begin)))
      (ap (λ (z : Known T H W). z.places) end ∙ (makes.4 ∙ (ap (λ (ns : List ℕ). ns ++ length (b.seen ++ makes.0) ∷ []) (ap (λ (z : Known T H W). z.places) begin) ∙ ap (λ (n : ℕ). a.places ++ n ∷ []) (sym number))))
      (ap (λ (z : Known T H W). z.mine) end ∙ (makes.3 ∙ ap (λ (ms : List Event). ms ++ e ∷ []) (ap (λ (z : Known T H W). z.mine) begin)))

  -- a thread that slept in the queue of o stands nowhere
  pub after_sleep : (old lv sl : Known T H W) (o : ℕ) (f : List ℕ) → old.stand ≡ None → lv ≡ record old { part = record old.part { count = lv.count; failed = f; stand = lv.stand } } → (o < 128 → sl ≡ record lv { part = record lv.part { stand = None; turns = o ∷ lv.turns } }) → (128 ≤ o → sl ≡ record lv { part = record lv.part { stand = None } })
      → (sl ≡ record old { part = record old.part { count = sl.count; failed = f; turns = sl.turns } }) × (without o sl.turns ≡ without o old.turns)
  after_sleep old lv sl o f stand left gate cond = ⊎_elim
      (λ (l : o < 128). let g = gate l in (search rules, ap (λ (z : Known T H W). without o z.turns) g ∙ (without_own o lv.turns ∙ ap (λ (z : Known T H W). without o z.turns) left)))
      (λ (l : 128 ≤ o). let g = cond l in (search rules, ap (λ (z : Known T H W). without o z.turns) g ∙ ap (λ (z : Known T H W). without o z.turns) left))
      (cases_lt o 128)

-- the values of the mutexes that are held stay out, after a change at m
pub still_out : {T : Type 0} (held held' : List (Opt T)) (values values' : List (Opt (Opt T))) (m : ℕ) (h : Opt T) (a b : Opt (Opt T)) → ((k : ℕ) (x : T) → get_elem? held k ≡ some (Some x) → get_elem? values k ≡ some (Some None))
    → held' ≡ set held m h → values' ≡ set (set values m a) m b → ((x : T) → h ≡ Some x → get_elem? values' m ≡ some (Some None))
    → (k : ℕ) (x : T) → get_elem? held' k ≡ some (Some x) → get_elem? values' k ≡ some (Some None)
still_out held held' values values' m h a b out hs vs own k x e = ⊎_elim
    (λ p. subst (λ (n : ℕ). get_elem? values' n ≡ some (Some None)) (sym p.0) (own x p.1))
    (λ p. ap (λ l. get_elem? l k) vs ∙ (set_else (set values m a) m k b p.0 ∙ (set_else values m k a p.0 ∙ out k x p.1)))
    (at_set held m k h (Some x) (ap (λ l. get_elem? l k) (sym hs) ∙ e))
