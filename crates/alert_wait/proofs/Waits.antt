-- A wait as a row of steps, each of which says what the thread knows then.
use Rattle.std.proofs.Common.{◌<◌, ◌≡◌, ℕ, Option as Opt, Some, None, List, [], ◌∷◌, ◌++◌, ap, subst, sym, ◌∙◌, append_assoc, append-nil, slice_set}
use Rattle.std.proofs.lemmas.List.{set-set}
use Rattle.larch_actions.specs.declared.event.Event.{Event}
use Rattle.larch_actions.specs.Actions.{StartsWith, by_thread}
use Rattle.larch_actions.specs.Sets.{without}
use Rattle.nub_rule.specs.declared.view.Pen.{Pen}
use Rattle.nub_rule.specs.declared.view.Stand.{Stand}
use Rattle.nub_rule.specs.declared.view.Wait.{Wait}
use Rattle.nub_rule.specs.Known.{IsOut, Known, Makes, Shape, recorded}
use Rattle.nub_rule.specs.Plays.{opened}
use Rattle.nub.specs.Rest.{Adds, AtRest, HasStored, IsSame}
use Rattle.nub.proofs.Adding.{legal_as, begins_on, grown}
use Rattle.nub.proofs.Without.{still_out}

module _ {T H W : Type 0} where
  -- the thread o puts the value y in as a, begins the wait as b, frees the mutex as f, blocks as k, has the mutex again as e with the value x, and takes that out as z
  pub record Waited (m : ℕ) (x y : T) (o a b f k e z : Known T H W) : Type 0 where
    pub wait : Opt Wait
    pub raised : Opt ℕ
    pub failed : List ℕ
    pub put : a ≡ record o { values = slice_set o.values m (Some (Some y)) }
    pub begun : b ≡ recorded a b (λ q. record q { wait = wait; raised = raised })
    pub freed : f ≡ record b { part = record b.part { held = f.held; share = f.share; stints = f.stints; count = f.count; wait = opened b.wait; failed = f.failed; cleared = without m b.cleared; looked = without m b.looked }; values = f.values }
    pub freed_held : f.held ≡ slice_set b.held m None
    pub freed_values : f.values ≡ slice_set b.values m None
    pub blocked : k ≡ record f { part = record f.part { count = k.count; failed = failed; wait = k.wait; alerted = k.alerted } }
    pub ended : e ≡ record (recorded k e (λ q. record q { held = e.held; count = e.count; wait = None; failed = e.failed; turns = e.turns; alerted = e.alerted; raised = None })) { values = e.values }
    pub turns : e.turns ≡ without m k.turns
    pub held : e.held ≡ slice_set k.held m (Some x)
    pub values : e.values ≡ slice_set k.values m (Some (Some x))
    pub out : z ≡ record e { values = slice_set e.values m (Some None) }

  -- what no part of the wait changes
  abbrev still : Known T H W → ℕ × Opt W × Opt ℕ × List ℕ × List ℕ × List ℕ × Opt Stand × Pen × Opt ℕ
  still k = (k.number, k.world, k.spin, k.queue, k.owed, k.left, k.stand, k.pen, k.calling)

  module _ (m : ℕ) (x y : T) (o a b f k e z : Known T H W) (s : Waited m x y o a b f k e z) where
    stays : still z ≡ still o
    stays = ap still s.out ∙ (ap still s.ended ∙ (ap still s.blocked ∙ (ap still s.freed ∙ (ap still s.begun ∙ ap still s.put))))

    pub same : IsSame o z
    same = record { number = ap (λ s. s.0) stays; world = ap (λ s. s.1) stays }

    pub held_then : z.held ≡ slice_set o.held m (Some x)
    held_then =
        let held = ap (λ k. k.held) s.blocked ∙ (s.freed_held ∙ ap (λ k. slice_set k.held m None) s.begun ∙ ap (λ k. slice_set k.held m None) s.put) in
        ap (λ k. k.held) s.out ∙ (s.held ∙ (ap (λ h. slice_set h m (Some x)) held ∙ set-set o.held m None (Some x)))

    values_then : z.values ≡ slice_set (slice_set o.values m (Some (Some x))) m (Some None)
    values_then =
        let values = ap (λ k. k.values) s.blocked ∙ (s.freed_values ∙ ap (λ k. slice_set k.values m None) s.begun ∙ ap (λ k. slice_set k.values m None) s.put) in
        ap (λ k. k.values) s.out
        ∙ ap (λ v. slice_set v m (Some None)) (s.values ∙ (ap (λ v. slice_set v m (Some (Some x))) values ∙ (ap (λ v. slice_set v m (Some (Some x))) (set-set o.values m (Some (Some y)) None) ∙ set-set o.values m None (Some (Some x)))))

    pub rests : (p : Shape W) → AtRest p o → HasStored p.traced e → IsOut z m → AtRest p z
    rests p rest stored is_out = record {
      of = ap (λ k. k.table_id) s.out ∙ (ap (λ k. k.table_id) s.ended ∙ (ap (λ k. k.table_id) s.blocked ∙ (ap (λ k. k.table_id) s.freed ∙ (ap (λ k. k.table_id) s.begun ∙ (ap (λ k. k.table_id) s.put ∙ rest.of)))));
      named = subst (λ (n : ℕ). n < p.layout.threads) (sym same.number) rest.named;
      outside = record {
        spin = ap (λ s. s.2) stays ∙ rest.outside.spin;
        queue = ap (λ s. s.3) stays ∙ rest.outside.queue;
        owed = ap (λ s. s.4) stays ∙ rest.outside.owed;
        left = ap (λ s. s.5) stays ∙ rest.outside.left;
        stand = ap (λ s. s.6) stays ∙ rest.outside.stand;
        pen = ap (λ s. s.7) stays ∙ rest.outside.pen;
        live = ap (λ k. k.life) s.out ∙ (ap (λ k. k.life) s.ended ∙ (ap (λ k. k.life) s.blocked ∙ (ap (λ k. k.life) s.freed ∙ (ap (λ k. k.life) s.begun ∙ (ap (λ k. k.life) s.put ∙ rest.outside.live)))));
      };
      wait = ap (λ k. k.wait) s.out ∙ ap (λ k. k.wait) s.ended;
      raised = ap (λ k. k.raised) s.out ∙ ap (λ k. k.raised) s.ended;
      calling = ap (λ s. s.8) stays ∙ rest.calling;
      turns = ap (λ k. k.turns) s.out ∙ (s.turns ∙ (ap (λ k. without m k.turns) s.blocked ∙ (ap (λ k. without m k.turns) s.freed ∙ (ap (λ k. without m k.turns) s.begun ∙ (ap (λ k. without m k.turns) s.put ∙ ap (without m) rest.turns)))));
      cleared = ap (λ k. k.cleared) s.out ∙ (ap (λ k. k.cleared) s.ended ∙ (ap (λ k. k.cleared) s.blocked ∙ (ap (λ k. k.cleared) s.freed ∙ (ap (λ k. without m k.cleared) s.begun ∙ (ap (λ k. without m k.cleared) s.put ∙ ap (without m) rest.cleared)))));
      looked = ap (λ k. k.looked) s.out ∙ (ap (λ k. k.looked) s.ended ∙ (ap (λ k. k.looked) s.blocked ∙ (ap (λ k. k.looked) s.freed ∙ (ap (λ k. without m k.looked) s.begun ∙ (ap (λ k. without m k.looked) s.put ∙ ap (without m) rest.looked)))));
      taken = still_out o.held z.held o.values z.values m (Some x) (Some (Some x)) (Some None) rest.taken held_then values_then (λ z e. is_out);
      stored = subst (λ k. HasStored p.traced k) (sym s.out) stored;
      child = ap (λ k. k.child) s.out ∙ (ap (λ k. k.child) s.ended ∙ (ap (λ k. k.child) s.blocked ∙ (ap (λ k. k.child) s.freed ∙ (ap (λ k. k.child) s.begun ∙ (ap (λ k. k.child) s.put ∙ rest.child)))));
      version = ap (λ k. k.version) s.out ∙ (ap (λ k. k.version) s.ended ∙ (ap (λ k. k.version) s.blocked ∙ (ap (λ k. k.version) s.freed ∙ (ap (λ k. k.version) s.begun ∙ (ap (λ k. k.version) s.put ∙ rest.version)))));
    }

    pub adds : (by : ℕ → Event) (ends : ℕ → Event) → Makes (by a.number) a b → Makes (ends k.number) k e → Adds (by o.number ∷ []) (ends o.number) o z
    adds by ends first_made second_made =
        let put_number = ap (λ k. k.number) s.put in
        let number = ap (λ k. k.number) s.blocked ∙ (ap (λ k. k.number) s.freed ∙ (ap (λ k. k.number) s.begun ∙ put_number)) in
        let d = by o.number in
        let h = ends o.number in
        let first = subst (λ (n : ℕ). Makes (by n) a b) put_number first_made in
        let second = subst (λ (n : ℕ). Makes (ends n) k e) number second_made in
        let between_seen = ap (λ k. k.seen) s.blocked ∙ ap (λ k. k.seen) s.freed in
        let between_mine = ap (λ k. k.mine) s.blocked ∙ ap (λ k. k.mine) s.freed in
        let seen = ap (λ k. k.seen) s.out ∙ second.2 in
        let mine = ap (λ k. k.mine) s.out ∙ second.3 in
        record {
          mine = mine ∙ ap (λ l. l ++ h ∷ []) (between_mine ∙ (first.3 ∙ ap (λ k. k.mine ++ d ∷ []) s.put));
          legal = legal_as k.version z.version ((k.seen ++ second.0) ++ h ∷ []) z.seen (ap (λ k. k.version) s.out ∙ ap (λ k. k.version) s.ended) (sym seen) second.1.legal;
          grows = begins_on o.seen k.seen z.seen (grown o.seen first.0 k.seen d (between_seen ∙ (first.2 ∙ ap (λ k. (k.seen ++ first.0) ++ d ∷ []) s.put))) (grown k.seen second.0 z.seen h seen);
          ends = (k.seen ++ second.0, seen);
          own = ap (λ n. by_thread n z.seen) (ap (λ k. k.number) s.out ∙ ap (λ k. k.number) s.ended) ∙ (ap (by_thread k.number) seen ∙ (second.1.own ∙ sym mine));
        }
