-- What the thread knows after some steps, of plain variables.
use Rattle.std.proofs.Common.{◌≡◌, ℕ, Option as Opt, None, Some, List, [], ap, sym, subst, ◌∙◌}
use Rattle.larch_actions.specs.declared.event.Event.{Event}
use Rattle.larch_actions.specs.Sets.{without}
use Rattle.nub_rule.specs.declared.view.Pen.{Pen}
use Rattle.nub_rule.specs.declared.view.Pen.TheVariants.{No}
use Rattle.nub_rule.specs.declared.view.Wait.{Wait}
use Rattle.nub_rule.specs.Known.{Known, Makes, learnt, recorded}

module _ {T H W : Type 0} where
  -- the thread o has raised the begun waits of c as r, and has begun its wait as z
  module _ (o r z : Known T H W) (c : ℕ) (raises : r ≡ record o { part = record o.part { raised = Some c } }) where
    pub made_raised : (e : Event) → Makes e r z → Makes e o z
    made_raised e u = let v = subst (λ k. Makes e k z) raises u in (v.0, record { legal = v.1.legal; own = v.1.own; number = v.1.number }, v.2, v.3, v.4)

    pub begun_raised : (w : Opt Wait) → z ≡ recorded r z (λ q. record q { wait = w }) → z ≡ recorded o z (λ q. record q { wait = w; raised = Some c })
    begun_raised w begun = begun ∙ ap (λ k. recorded k z (λ q. record q { wait = w })) raises

  -- the thread o has read its number as b, has begun its wait as u, and has given the pen back as z
  module _ (o b u z : Known T H W) (pen : o.pen ≡ No) (began : b ≡ record o { part = record o.part { pen = b.pen }; next = b.next }) (tells : z ≡ record u { part = record u.part { pen = No }; entries = z.entries; space = z.space }) where
    pub begun_traced : (w : Opt Wait) (q : Pen) → u ≡ record b { part = record (learnt b.part u.part) { wait = w; pen = q } } → z ≡ recorded o z (λ q. record q { wait = w })
    begun_traced w q begun =
        let G : Known T H W → Known T H W = λ k. record k { part = record k.part { seen = z.seen; mine = z.mine; places = z.places }; next = z.next } in
        let F : Known T H W → Known T H W = λ k. record k { part = record k.part { seen = z.seen; mine = z.mine; places = z.places; pen = No }; next = z.next; entries = z.entries; space = z.space } in
        let E : Known T H W → Pen → Known T H W = λ k p. recorded k z (λ q. record q { wait = w; pen = p }) in
        ap G tells ∙ ap F begun ∙ ap (λ k. E k No) began ∙ ap (E o) (sym pen)

  -- the thread o has the spin word of n as i, and is z when it has given it back
  module _ (n : ℕ) (o i b z : Known T H W) (outside : (o.spin ≡ None) × (o.queue ≡ []) × (o.owed ≡ []) × (o.left ≡ []))
      (entered : i ≡ record o { part = record o.part { spin = Some n; queue = i.queue; owed = []; left = i.queue; count = i.count; failed = without n o.failed } })
      (leaves : z ≡ record b { part = record b.part { spin = None; queue = []; left = [] } }) where
    -- between, as b, its wait has changed
    pub left_at_once : (w : Opt Wait) → b ≡ record i { part = record i.part { wait = w } } → z ≡ record o { part = record o.part { count = z.count; failed = without n o.failed; wait = z.wait; alerted = z.alerted } }
    left_at_once w moved =
        let G : Known T H W → Known T H W = λ k. record k { part = record k.part { count = z.count; wait = z.wait; alerted = z.alerted } } in
        let F : Known T H W → Known T H W = λ k. record k { part = record k.part { spin = None; queue = []; left = []; count = z.count; wait = z.wait; alerted = z.alerted } } in
        let E : Opt ℕ → List ℕ → List ℕ → List ℕ → Known T H W = λ p x y v. record o { part = record o.part { spin = p; queue = x; owed = y; left = v; count = z.count; failed = without n o.failed; wait = z.wait; alerted = z.alerted } } in
        ap G leaves ∙ ap F moved ∙ ap F entered
        ∙ ap (λ p. E p [] [] []) (sym outside.0)
        ∙ ap (λ x. E o.spin x [] []) (sym outside.1)
        ∙ ap (λ y. E o.spin o.queue y []) (sym outside.2)
        ∙ ap (E o.spin o.queue o.owed) (sym outside.3)

  -- the thread o has the spin word of n as i, has read its number as b, has advanced the count as a, and has told that as e
  module _ (n : ℕ) (o i b a e : Known T H W) (l : List ℕ) (m : ℕ) (p : Pen)
      (below : i ≡ record o { part = record o.part { spin = Some n; queue = i.queue; left = i.queue; count = i.count; failed = without n o.failed } })
      (began : b ≡ record i { part = record i.part { pen = b.pen }; next = b.next }) (advances : a ≡ record b { part = record (learnt b.part a.part) { left = l; count = m; calling = None; pen = p } })
      (tells : e ≡ record a { part = record a.part { pen = No }; entries = e.entries; space = e.space }) where
    pub owes_as_before : e.owed ≡ o.owed
    owes_as_before = ap (λ k. k.owed) tells ∙ (ap (λ k. k.owed) advances ∙ (ap (λ k. k.owed) began ∙ ap (λ k. k.owed) below))

    module _ (z : Known T H W) (spin : o.spin ≡ None) (queue : o.queue ≡ []) (left : o.left ≡ []) (pen : o.pen ≡ No) where
      -- it has left, with what it owes then
      advanced : (d : List ℕ) → z ≡ record e { part = record e.part { spin = None; queue = []; left = []; owed = d } } → d ≡ o.owed → z ≡ recorded o z (λ q. record q { count = z.count; failed = without n o.failed; calling = None })
      advanced d last owed =
          let G : Known T H W → Known T H W = λ k. record k { part = record k.part { seen = z.seen; mine = z.mine; places = z.places; count = z.count }; entries = z.entries; space = z.space; next = z.next } in
          let F : Known T H W → Known T H W =
          λ k. record k { part = record k.part { spin = None; queue = []; left = []; owed = d; seen = z.seen; mine = z.mine; places = z.places; count = z.count }; entries = z.entries; space = z.space; next = z.next } in
          let K : Known T H W → Known T H W = λ k. record (F k) { part = record (F k).part { pen = No } } in
          let D : Known T H W → Known T H W = λ k. record (K k) { part = record (K k).part { calling = None } } in
          let E : Opt ℕ → List ℕ → List ℕ → List ℕ → Pen → Known T H W = λ s q f u r. recorded o z (λ p. record p { spin = s; queue = q; left = f; owed = u; pen = r; count = z.count; failed = without n o.failed; calling = None }) in
          ap G last ∙ ap F tells ∙ ap K advances ∙ ap D began ∙ ap D below
          ∙ ap (λ s. E s [] [] d No) (sym spin)
          ∙ ap (λ q. E o.spin q [] d No) (sym queue)
          ∙ ap (λ f. E o.spin o.queue f d No) (sym left)
          ∙ ap (λ u. E o.spin o.queue o.left u No) owed
          ∙ ap (E o.spin o.queue o.left o.owed) (sym pen)

      -- it popped one as q, woke it as w, and left
      pub advanced_one : (q w : Known T H W) (x y : List ℕ) → q ≡ record e { part = record e.part { queue = x; owed = q.owed } } → w ≡ record q { part = record q.part { owed = y } } → z ≡ record w { part = record w.part { spin = None; queue = []; left = [] } } → w.owed ≡ [] → o.owed ≡ []
          → z ≡ recorded o z (λ q. record q { count = z.count; failed = without n o.failed; calling = None })
      advanced_one q w x y popped wakes leaves gone none =
          let L : Known T H W → Known T H W = λ k. record k { part = record k.part { spin = None; queue = []; left = []; owed = w.owed } } in
          advanced w.owed (leaves ∙ ap L wakes ∙ ap L popped) (gone ∙ sym none)

      -- it found nobody to pop, as q, and left
      pub advanced_none : (q : Known T H W) (x : List ℕ) → q ≡ record e { part = record e.part { queue = x; owed = q.owed } } → q.owed ≡ e.owed → z ≡ record q { part = record q.part { spin = None; queue = []; left = [] } }
          → z ≡ recorded o z (λ q. record q { count = z.count; failed = without n o.failed; calling = None })
      advanced_none q x popped owes leaves =
          let L : Known T H W → Known T H W = λ k. record k { part = record k.part { spin = None; queue = []; left = []; owed = q.owed } } in
          advanced q.owed (leaves ∙ ap L popped) (owes ∙ owes_as_before)

      -- it popped and woke all as w, and left
      pub advanced_all : (w : Known T H W) → w ≡ record e { part = record e.part { queue = [] } } → z ≡ record w { part = record w.part { spin = None; queue = []; left = [] } } → z ≡ recorded o z (λ q. record q { count = z.count; failed = without n o.failed; calling = None })
      advanced_all w woken leaves =
          let L : Known T H W → Known T H W = λ k. record k { part = record k.part { spin = None; queue = []; left = [] } } in
          advanced e.owed (leaves ∙ ap L woken) owes_as_before
