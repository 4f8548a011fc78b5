-- What the thread knows after the steps in which it stands in a queue, of plain variables.
use Rattle.std.proofs.Common.{◌≡◌, ℕ, ◌<◌, ◌≤◌, Bool, true, false, Option as Opt, None, Some, List, [], ◌∷◌, refl, ap, sym, ◌∙◌, ⊎_elim}
use Rattle.std.proofs.lemmas.Bool.{cases_lt}
use Rattle.larch_actions.specs.Sets.{without}
use Rattle.nub_rule.specs.declared.view.Stage.TheVariants.{Alerted}
use Rattle.nub_rule.specs.declared.view.Stand.{Stand}
use Rattle.nub_rule.specs.Known.{Known}
use Rattle.nub_rule.specs.Parts.{staged}
use Rattle.nub.proofs.Without.{without_own}

pub by_answer : {X : Type 0} (b : Bool) → (b ≡ true → X) → (b ≡ false → X) → X
by_answer true f g = f refl
by_answer false f g = g refl

module _ {T H W : Type 0} where
  -- the thread o has the spin word of n as i; its queue is given back with the word
  abbrev pub Enters : ℕ → Known T H W → Known T H W → Type 0
  Enters n o i = i ≡ record o { part = record o.part { spin = Some n; queue = i.queue; owed = []; left = i.queue; count = i.count; failed = without n o.failed } }

  module _ (n : ℕ) (o i z : Known T H W) (entered : Enters n o i) (spin : o.spin ≡ None) (queue : o.queue ≡ []) (owed : o.owed ≡ []) (left : o.left ≡ []) where
    -- it pushed itself as q, and tested the bit as t
    module _ (q t : Known T H W) (a d : List ℕ) (stood tested : Opt Stand) (pushed : q ≡ record i { part = record i.part { queue = a; left = d; stand = stood } }) (tests : t ≡ record q { part = record q.part { stand = tested } }) where
      -- as z in the end, and out of the Nub
      abbrev settles : Known T H W → Known T H W
      settles k = record k { part = record k.part { count = z.count; stand = z.stand; turns = z.turns; alerted = z.alerted } }

      abbrev closes : Known T H W → Known T H W
      closes k = record k { part = record k.part { spin = None; queue = []; left = []; count = z.count; stand = z.stand; turns = z.turns; alerted = z.alerted } }

      closed : closes t ≡ record o { part = record o.part { count = z.count; stand = z.stand; failed = without n o.failed; turns = z.turns; alerted = z.alerted } }
      closed =
          let E : Opt ℕ → List ℕ → List ℕ → List ℕ → Known T H W = λ s x y f. record o { part = record o.part { spin = s; queue = x; owed = y; left = f; count = z.count; stand = z.stand; failed = without n o.failed; turns = z.turns; alerted = z.alerted } } in
          ap closes tests ∙ ap closes pushed ∙ ap closes entered
          ∙ ap (λ s. E s [] [] []) (sym spin) ∙ ap (λ x. E o.spin x [] []) (sym queue) ∙ ap (λ y. E o.spin o.queue y []) (sym owed) ∙ ap (E o.spin o.queue o.owed) (sym left)

      -- it found it clear, took itself out as r, and left as z
      pub went_on : (r : Known T H W) (e f u : List ℕ) → r ≡ record t { part = record t.part { queue = e; left = f; stand = None; turns = u } } → z ≡ record r { part = record r.part { spin = None; queue = []; left = [] } }
          → z ≡ record o { part = record o.part { count = z.count; stand = z.stand; failed = without n o.failed; turns = z.turns; alerted = z.alerted } }
      went_on r e f u out leaves = ap settles leaves ∙ ap closes out ∙ closed

      -- it found it set, left as l, and slept, until it was made ready or was alerted, as z
      pub slept : (l : Known T H W) (b : Bool) → l ≡ record t { part = record t.part { spin = None; queue = []; left = [] } } → (b ≡ true → z ≡ record l { part = record l.part { stand = None; turns = z.turns } })
          → (b ≡ false → z ≡ record l { part = record l.part { alerted = true; stand = staged Alerted l.stand } })
          → z ≡ record o { part = record o.part { count = z.count; stand = z.stand; failed = without n o.failed; turns = z.turns; alerted = z.alerted } }
      slept l b leaves woken alerted = last b woken alerted ∙ ap settles leaves ∙ closed
        where
          last : (b : Bool) → (b ≡ true → z ≡ record l { part = record l.part { stand = None; turns = z.turns } }) → (b ≡ false → z ≡ record l { part = record l.part { alerted = true; stand = staged Alerted l.stand } }) → z ≡ settles l
          last true f g = ap settles (f refl)
          last false f g = ap settles (g refl)

  -- the thread l slept in the queue of n until it was made ready, as z
  module _ (l z : Known T H W) (n : ℕ) (gate : n < 128 → z ≡ record l { part = record l.part { stand = None; turns = n ∷ l.turns } }) (cond : 128 ≤ n → z ≡ record l { part = record l.part { stand = None } }) where
    pub woken : z ≡ record l { part = record l.part { stand = None; turns = z.turns } }
    woken =
        let F : Known T H W → Known T H W = λ k. record k { part = record k.part { turns = z.turns } } in
        ⊎_elim (λ low. ap F (gate low)) (λ high. ap F (cond high)) (cases_lt n 128)

    pub woken_turns : without n z.turns ≡ without n l.turns
    woken_turns = ⊎_elim (λ low. ap (λ k. without n k.turns) (gate low) ∙ without_own n l.turns) (λ high. ap (λ k. without n k.turns) (cond high)) (cases_lt n 128)
