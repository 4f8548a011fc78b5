-- A P that an alert may end as a row of steps, each of which says what the thread knows then.
use Rattle.std.proofs.Common.{◌≡◌, ℕ, false, Option as Opt, None, List, [], ◌∷◌, ap, sym, ◌∙◌}
use Rattle.larch_actions.specs.declared.event.Event.{Event}
use Rattle.larch_actions.specs.Sets.{without}
use Rattle.nub.proofs.Making.{makes_by}
use Rattle.nub_rule.specs.declared.view.Stand.{Stand}
use Rattle.nub_rule.specs.declared.view.Wait.{Wait}
use Rattle.nub_rule.specs.Known.{Known, Makes, recorded}
use Rattle.nub.proofs.Without.{without_twice}

module _ {T H W : Type 0} where
  -- the thread o is l after tries that failed
  abbrev pub Tries : Known T H W → Known T H W → Type 0
  Tries o l = l ≡ record o { part = record o.part { count = l.count; failed = l.failed; turns = l.turns; alerted = l.alerted }; next = l.next }

  -- one more try of n has failed, as t
  abbrev pub Lost : ℕ → Known T H W → Known T H W → Type 0
  Lost n l t = t ≡ record l { part = record l.part { failed = n ∷ l.failed; turns = without n l.turns }; next = t.next }

  -- and the thread has stood in line for n, as s
  abbrev pub Stood : ℕ → Known T H W → Known T H W → Type 0
  Stood n t s = s ≡ record t { part = record t.part { count = s.count; stand = s.stand; failed = without n t.failed; turns = s.turns; alerted = s.alerted } }

  -- a try of n has taken the bit, as t
  pub won : (n : ℕ) (o l t : Known T H W) → Tries o l → without n l.turns ≡ [] → o.wait ≡ None → o.turns ≡ []
      → t ≡ record (recorded l t (λ q. record q { held = t.held; wait = None; failed = without n l.failed; turns = without n l.turns })) { values = t.values }
      → (t.held ≡ l.held) × (t.values ≡ l.values) → t ≡ recorded o t (λ q. record q { count = t.count; failed = t.failed; alerted = t.alerted })
  won n o l t same turns no_wait no_turns is taken =
      let F : Known T H W → List (Opt T) → List (Opt (Opt T)) → Opt Wait → List ℕ → Known T H W =
      λ k h v w u. record (recorded k t (λ q. record q { held = h; wait = w; turns = u; failed = t.failed; count = t.count; alerted = t.alerted })) { values = v } in
      let G : Known T H W → Known T H W = λ k. record k { part = record k.part { failed = t.failed; count = t.count; alerted = t.alerted } } in
      ap G is
      ∙ ap (F l t.held t.values None) turns
      ∙ ap (λ k. F k t.held t.values None []) same
      ∙ ap (λ h. F o h t.values None []) (taken.0 ∙ ap (λ k. k.held) same)
      ∙ ap (λ v. F o o.held v None []) (taken.1 ∙ ap (λ k. k.values) same)
      ∙ ap (λ w. F o o.held o.values w []) (sym no_wait)
      ∙ ap (F o o.held o.values o.wait) (sym no_turns)

  module _ (n : ℕ) (o l t s : Known T H W) (same : Tries o l) (turns : without n l.turns ≡ []) (lost : Lost n l t) (stood : Stood n t s) where
    -- the thread goes on
    pub still_tries : o.stand ≡ None → s.stand ≡ None → Tries o s
    still_tries no_stand out =
        let F : Known T H W → Opt Stand → Known T H W = λ k q. record k { part = record k.part { stand = q; count = s.count; failed = s.failed; turns = s.turns; alerted = s.alerted }; next = s.next } in
        let G : Known T H W → Known T H W = λ k. record k { part = record k.part { failed = s.failed }; next = s.next } in
        ap G stood
        ∙ ap (λ k. F k s.stand) lost
        ∙ ap (λ k. F k s.stand) same
        ∙ ap (F o) (out ∙ sym no_stand)

    pub still_none : without n s.turns ≡ without n t.turns → without n s.turns ≡ []
    still_none is = is ∙ (ap (λ k. without n k.turns) lost ∙ (without_twice n l.turns ∙ turns))

    -- it was alerted in the line, and ends the call as e
    module _ (e : Known T H W) (no_stand : o.stand ≡ None) (no_turns : o.turns ≡ []) (stays : s.turns ≡ t.turns)
        (ended : e ≡ recorded s e (λ q. record q { count = e.count; stand = None; failed = e.failed; alerted = e.alerted })) where
      pub raised : e ≡ recorded o e (λ q. record q { count = e.count; failed = e.failed; alerted = e.alerted })
      raised =
          let F : Known T H W → Opt Stand → List ℕ → Known T H W = λ k q u. recorded k e (λ p. record p { count = e.count; stand = q; failed = e.failed; alerted = e.alerted; turns = u }) in
          ended
          ∙ ap (λ k. F k None s.turns) stood
          ∙ ap (λ k. F k None s.turns) lost
          ∙ ap (λ k. F k None s.turns) same
          ∙ ap (λ q. F o q s.turns) (sym no_stand)
          ∙ ap (F o o.stand) (stays ∙ (ap (λ k. k.turns) lost ∙ (turns ∙ sym no_turns)))

    -- the event that it made then
    pub raises : (by : ℕ → Event) (e : Known T H W) → Makes (by s.number) s e → Makes (by o.number) o e
    raises by e made =
        let number = ap (λ k. k.number) stood ∙ (ap (λ k. k.number) lost ∙ ap (λ k. k.number) same) in
        let version = ap (λ k. k.version) stood ∙ (ap (λ k. k.version) lost ∙ ap (λ k. k.version) same) in
        let seen = ap (λ k. k.seen) stood ∙ (ap (λ k. k.seen) lost ∙ ap (λ k. k.seen) same) in
        let mine = ap (λ k. k.mine) stood ∙ (ap (λ k. k.mine) lost ∙ ap (λ k. k.mine) same) in
        let places = ap (λ k. k.places) stood ∙ (ap (λ k. k.places) lost ∙ ap (λ k. k.places) same) in
        let pen = ap (λ k. k.pen) stood ∙ (ap (λ k. k.pen) lost ∙ ap (λ k. k.pen) same) in
        makes_by by o s e number version seen mine places pen made

  pub with_alerted : (a b : Known T H W) → a ≡ b → a ≡ record b { part = record b.part { alerted = a.alerted } }
  with_alerted a b is = let F : Known T H W → Known T H W = λ k. record k { part = record k.part { alerted = a.alerted } } in ap F is

  -- the thread o, whose last try has failed as a, raises as z
  pub raised_last : (o a z : Known T H W) → a ≡ record o { part = record o.part { count = a.count; stand = None; failed = a.failed }; next = a.next } → z ≡ recorded a z (λ q. record q { alerted = false })
      → z ≡ recorded o z (λ q. record q { count = z.count; stand = None; failed = z.failed; alerted = z.alerted })
  raised_last o a z is raised =
      let F : Known T H W → Known T H W = λ k. recorded k z (λ q. record q { count = z.count; failed = z.failed; alerted = z.alerted }) in
      let G : Known T H W → Known T H W = λ k. record k { part = record k.part { count = z.count; failed = z.failed; alerted = z.alerted } } in
      ap G raised ∙ ap F is

  -- the thread o has lowered the begun waits as l, and has the mutex again as z
  pub ended_returned : (o l z : Known T H W) → l ≡ record o { part = record o.part { raised = None } } → z ≡ record (recorded l z (λ q. record q { held = z.held; count = z.count; wait = None; failed = z.failed; turns = z.turns })) { values = z.values }
      → z ≡ record (recorded o z (λ q. record q { held = z.held; count = z.count; wait = None; failed = z.failed; turns = z.turns; alerted = z.alerted; raised = None })) { values = z.values }
  ended_returned o l z lowered ended =
      let G : Known T H W → Known T H W = λ k. record k { part = record k.part { alerted = z.alerted } } in
      let F : Known T H W → Known T H W = λ k. record (recorded k z (λ q. record q { held = z.held; count = z.count; wait = None; failed = z.failed; turns = z.turns; alerted = z.alerted })) { values = z.values } in
      ap G ended ∙ ap F lowered
