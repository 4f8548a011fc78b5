use Rattle.std.proofs.Common.{◌≡◌, ◌≤◌, ◌<◌, ◌+◌, ◌++◌, ◌∷◌, [], List, append_assoc, rules, ℕ, ◌∙◌, ap, sym, refl, length, length-append, arith}
use Rattle.std.proofs.lemmas.List.{length_push}
use Rattle.nub_rule.specs.Ends.{first_known}
use Rattle.nub_rule.proofs.Each.{all_read, each-none, each-snoc}
use Rattle.nub_rule.proofs.opening.cut_all.Goals as goal

module _ {A : Type 0} where
  one_longer : (xs : List A) (x : A) (n : ℕ) → length xs ≡ n → length (xs ++ x ∷ []) ≡ n + 1
  one_longer xs x n e = let m = length_push xs x in omega arith

  -- one that wasn't read yet is one of all
  more_to_come : (all ys rest : List A) (x : A) (n m : ℕ) → all ≡ ys ++ x ∷ rest → length ys ≡ n → length all ≡ m → n < m
  more_to_come all ys rest x n m is read long = let e : length all ≡ length ys + length (x ∷ rest) = ap length is ∙ length-append ys (x ∷ rest) in omega arith

room_for_one : (l n m room : ℕ) → l ≡ n → n < m → m ≤ room → l < room
room_for_one l n m room e low wide = omega arith

still_room : (n a b : ℕ) → n ≤ a → b ≡ a → n ≤ b
still_room n a b h e = omega arith

not_none : (n : ℕ) → n + 1 ≡ 0 → ⊥
not_none n e = omega arith

pub loop-parker-init : goal.loop-parker-init
loop-parker-init g c = record {
  of = refl;
  kind = c.requires.root.0;
  next = c.requires.root.1;
  world = refl;
  version = refl;
  all = search rules;
  read = refl;
  count = ap length c.requires.threads.0;
  wide = c.requires.threads.1;
  empty = c.requires.room.0;
  room = λ _. c.requires.room.1;
  threads = each-none (λ n t. t ≡ first_known c.args.p.now.table_id c.args.p.now.layout.version c.args.p.now.world g.U.Uses.begin n) c.args.threads.items c.requires.threads.0;
}

pub cut-requires-clause-world : goal.cut-requires-clause-world
cut-requires-clause-world g c = λ _ _. c.loop-parker.invariant.world ∙ c.requires.world

pub cut-requires-clause-version : goal.cut-requires-clause-version
cut-requires-clause-version g c = λ _ _. c.loop-parker.invariant.version ∙ c.requires.version

pub cut-requires-clause-room : goal.cut-requires-clause-room
cut-requires-clause-room g c = λ _ _. c.loop-parker.invariant.room

pub cut-requires-clause-next : goal.cut-requires-clause-next
cut-requires-clause-next g c = let i = c.loop-parker.invariant in
    λ _ _. (i.next, more_to_come c.args.parkers.items c.loop-parker.yielded c.next.new.self.rest.items c.in-Some.parker _ _ (i.all ∙ ap (λ l. c.loop-parker.yielded ++ l) c.in-Some.ensures.steps.0) i.read c.requires.parkers)

pub push_reserved-requires : goal.push_reserved-requires
push_reserved-requires g c = let i = c.loop-parker.invariant in
    room_for_one _ _ _ _ (c.loop-parker.threads.ok.0 ∙ i.count) (more_to_come c.args.parkers.items c.loop-parker.yielded c.next.new.self.rest.items c.in-Some.parker _ _ (i.all ∙ ap (λ l. c.loop-parker.yielded ++ l) c.in-Some.ensures.steps.0) i.read c.requires.parkers) i.wide

pub loop-parker-preserved : goal.loop-parker-preserved
loop-parker-preserved g c = let i = c.loop-parker.invariant in let r = c.cut.ensures.root in let long = c.push_reserved.ensures.items in record {
  of = c.cut.ensures.of ∙ i.of;
  kind = ap (λ v. v.kind) r ∙ i.kind;
  next = ap (λ v. v.next) r ∙ ap (λ n. n + 1) i.next;
  world = ap (λ v. v.world) r ∙ i.world;
  version = ap (λ v. v.part.version) r ∙ i.version;
  read = one_longer c.loop-parker.yielded c.in-Some.parker c.loop-parker.number i.read;
  all = i.all ∙ (ap (λ l. c.loop-parker.yielded ++ l) c.in-Some.ensures.steps.0 ∙ sym (append_assoc c.loop-parker.yielded (c.in-Some.parker ∷ []) c.next.new.self.rest.items));
  wide = still_room _ _ _ i.wide c.push_reserved.ensures.capacity;
  count = ap length long ∙ one_longer c.loop-parker.threads.items c.cut.result c.loop-parker.number i.count;
  empty = c.cut.ensures.empty;
  room = λ z. absurd (not_none c.loop-parker.number z);
  threads = each-snoc (λ n t. t ≡ first_known c.args.p.now.table_id c.args.p.now.layout.version c.args.p.now.world g.U.Uses.begin n)
      c.loop-parker.threads.items c.push_reserved.new.self.items c.loop-parker.number c.cut.result long i.count
      (c.cut.ensures.thread ∙ ap (λ z. first_known z c.args.p.now.layout.version c.args.p.now.world g.U.Uses.begin c.loop-parker.number) (i.of ∙ c.requires.of)) i.threads;
}

pub returns-clause-count : goal.returns-clause-count
returns-clause-count g c = let i = c.loop-parker.invariant in let r = c.loop-parker.parker-iterator.rest in let z : length r.items ≡ 0 = omega (arith, c.in-None.ensures) in
    i.count ∙ (sym i.read ∙ (ap length (all_read c.args.parkers.items c.loop-parker.yielded r.items i.all z) ∙ c.requires.parkers))
