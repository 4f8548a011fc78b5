-- What the thread knows after the steps of a sleep, and after those that lead to an event, of plain variables.
use Rattle.std.proofs.Common.{Bool, ◌≡◌, ◌<◌, ◌≤◌, ℕ, true, None, Some, Option as Opt, ◌∷◌, ap, sym, subst, ◌∙◌, inl, inr, arith}
use Rattle.nub_rule.specs.declared.view.Pen.TheVariants.{No, Taken, Read}
use Rattle.nub_rule.specs.declared.view.Stage.{Stage}
use Rattle.nub_rule.specs.declared.view.Stage.TheVariants.{Alerted, Asleep, Found}
use Rattle.nub_rule.specs.declared.view.Stand.{Stand}
use Rattle.nub_rule.specs.Known.{Known}
use Rattle.nub_rule.specs.Parts.{HasTested, alerted_stand, staged}
use Rattle.nub.specs.Hearing.{HearsAlerts}

some_stand : (s t : Stand) → Some s ≡ Some t → s ≡ t
some_stand s t is = cc

module _ {T H W : Type 0} where
  -- at a gate no wait ends by an alert
  pub hears_at_gate : (k : Known T H W) (alertable : Bool) (s : Stand) → k.stand ≡ Some s → s.at < 128 → HearsAlerts alertable k
  hears_at_gate k alertable s stood low = λ x t waits of_alerts stands here. let z : s.at ≡ t.at = ap (λ (u : Stand). u.at) (some_stand s t (sym stood ∙ stands)) in absurd (omega arith)

  -- the sleep may end by an alert, or the thread has found its alert word set
  pub hears_anyway : (k : Known T H W) (alertable : Bool) → alertable ≡ true → HearsAlerts alertable k
  hears_anyway k alertable is = λ x s waits of_alerts stands here. inl is

  pub has_heard : (k : Known T H W) (alertable : Bool) → k.alerted ≡ true → HearsAlerts alertable k
  has_heard k alertable seen = λ x s waits of_alerts stands here. inr seen

  -- the thread o stands as s, at this stage as l, and has read its ready word as r
  module _ (o l r : Known T H W) (s : Stand) (stage : Stage) (stood : o.stand ≡ Some s) (is : l ≡ record o { part = record o.part { stand = Some (record s { stage = stage }) } }) where
    pub alerted_asleep : (z : Known T H W) → r ≡ record l { part = record l.part { stand = staged Asleep l.stand } } → z ≡ record r { part = record r.part { alerted = true; stand = alerted_stand r.stand } }
        → z ≡ record o { part = record o.part { alerted = true; stand = staged Alerted o.stand } }
    alerted_asleep z asleep alerted =
        let R : Known T H W → Known T H W = λ k. record k { part = record k.part { alerted = true; stand = alerted_stand k.stand } } in
        let L : Known T H W → Known T H W = λ k. record k { part = record k.part { alerted = true; stand = alerted_stand (staged Asleep k.stand) } } in
        let O : Opt Stand → Known T H W = λ w. record o { part = record o.part { alerted = true; stand = staged Alerted w } } in
        alerted ∙ (ap R asleep ∙ (ap L is ∙ ap O (sym stood)))

    pub still_asleep : (z : Known T H W) → r ≡ record l { part = record l.part { stand = staged Asleep l.stand } } → z ≡ r
        → (t : Stand) × (g : Stage) × (o.stand ≡ Some t) × HasTested g × (z ≡ record o { part = record o.part { stand = Some (record t { stage = g }) } })
    still_asleep z asleep same =
        let L : Known T H W → Known T H W = λ k. record k { part = record k.part { stand = staged Asleep k.stand } } in
        (s, Asleep, stood, tt, same ∙ (asleep ∙ ap L is))

    pub asleep_stand : (z : Known T H W) → r ≡ record l { part = record l.part { stand = staged Asleep l.stand } } → z ≡ r → z.stand ≡ Some (record s { stage = Asleep })
    asleep_stand z asleep same = ap (λ k. k.stand) same ∙ (ap (λ k. k.stand) asleep ∙ ap (λ k. staged Asleep k.stand) is)

    pub found_stand : r ≡ record l { part = record l.part { stand = staged Found l.stand } } → r.stand ≡ Some (record s { stage = Found })
    found_stand found = ap (λ k. k.stand) found ∙ ap (λ k. staged Found k.stand) is

    pub woken_at_gate : (z : Known T H W) → r ≡ record l { part = record l.part { stand = staged Found l.stand } }
        → ((t : Stand) → r.stand ≡ Some t → t.at < 128 → z ≡ record r { part = record r.part { stand = None; turns = t.at ∷ r.turns } })
        → (t : Stand) → o.stand ≡ Some t → t.at < 128 → z ≡ record o { part = record o.part { stand = None; turns = t.at ∷ o.turns } }
    woken_at_gate z found gone t at low =
        let same : s ≡ t = some_stand s t (sym stood ∙ at) in
        let R : Known T H W → Known T H W = λ k. record k { part = record k.part { stand = None; turns = s.at ∷ k.turns } } in
        gone (record s { stage = Found }) (found_stand found) (subst (λ (x : Stand). x.at < 128) (sym same) low) ∙ (ap R found ∙ (ap R is ∙ ap (λ x. record o { part = record o.part { stand = None; turns = x.at ∷ o.turns } }) same))

    pub woken_at_cond : (z : Known T H W) → r ≡ record l { part = record l.part { stand = staged Found l.stand } }
        → ((t : Stand) → r.stand ≡ Some t → 128 ≤ t.at → z ≡ record r { part = record r.part { stand = None } })
        → (t : Stand) → o.stand ≡ Some t → 128 ≤ t.at → z ≡ record o { part = record o.part { stand = None } }
    woken_at_cond z found gone t at high =
        let same : s ≡ t = some_stand s t (sym stood ∙ at) in
        let R : Known T H W → Known T H W = λ k. record k { part = record k.part { stand = None } } in
        gone (record s { stage = Found }) (found_stand found) (subst (λ (x : Stand). 128 ≤ x.at) (sym same) high) ∙ (ap R found ∙ ap R is)

  -- the thread o, after tries of the pen as l, has taken it as t and has read the number n as z
  pub read_with_pen : (o l t z : Known T H W) (n : ℕ) → l ≡ record o { next = l.next } → t ≡ record l { part = record l.part { pen = Taken } } → z ≡ record t { part = record t.part { pen = Read n }; next = n }
      → z ≡ record o { part = record o.part { pen = Read z.next }; next = z.next }
  read_with_pen o l t z n same took read =
      let R : Known T H W → Known T H W = λ k. record k { part = record k.part { pen = Read n }; next = n } in
      read ∙ (ap R took ∙ (ap R same ∙ ap (λ m. record o { part = record o.part { pen = Read m }; next = m }) (sym (ap (λ k. k.next) read))))

  -- as read_with_pen, but the pen went back, as w
  pub pen_back : (o l t z w : Known T H W) (n : ℕ) → o.pen ≡ No → l ≡ record o { next = l.next } → t ≡ record l { part = record l.part { pen = Taken } } → z ≡ record t { part = record t.part { pen = Read n }; next = n } → w ≡ record z { part = record z.part { pen = No } }
      → w ≡ record o { next = w.next }
  pen_back o l t z w n none same took read back =
      let G : Known T H W → Known T H W = λ k. record k { part = record k.part { pen = No }; next = w.next } in
      let W : Known T H W → Known T H W = λ k. record k { next = w.next } in
      ap W back ∙ (ap G read ∙ (ap G took ∙ (ap G same ∙ ap (λ p. record o { part = record o.part { pen = p }; next = w.next }) (sym none))))

  -- what changes with the pen that was read
  pub only_pen : (o z : Known T H W) → z ≡ record o { part = record o.part { pen = Read z.next }; next = z.next } → z ≡ record o { part = record o.part { pen = z.pen }; next = z.next }
  only_pen o z read = read ∙ ap (λ p. record o { part = record o.part { pen = p }; next = z.next }) (sym (ap (λ k. k.pen) read))
