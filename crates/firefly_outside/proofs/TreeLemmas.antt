-- Adding to a tree.
use Rattle.std.proofs.Common.{◌≡◌, ◌≢◌, Bool, true, false, List, [], ◌∷◌, ◌++◌, length, get_or, sym, ◌∙◌, ap, subst, refl, inl, inr, arith, ◌⊎◌, length-append, nat_eq}
use Rattle.std.specs.Prelude.{Option, Some, None, if◌then◌else◌, Contains, ◌↔◌}
use Rattle.std.specs.Option.{option_map}
use Rattle.std.specs.List.{All}
use Rattle.std.specs.Cmp.Lexicographic.{pointwise}
use Rattle.std.proofs.lemmas.Bool.{cases_Bool}
use Rattle.std.proofs.lemmas.Bool.Decides.{Decides-eqb}
use Rattle.std.proofs.lemmas.Slice.Eq.{slice_eq-Decides}
use Rattle.std.proofs.lemmas.List.Elements.{Contains-push_cases, All-append, All-cons, All-nil}
use Rattle.std.proofs.lemmas.List.Quantifiers.{all_pairs_push}
use Rattle.firefly_outside.specs.Trees.{Path, Node, Directory, Bytes, Contents, child, slash, with_last, IsName, AreEntries, IsChild, HasParent, IsBare, IsLeaf, Adds, Names, IsListing}
use Rattle.std.proofs.lemmas.List.{get_or_default}
use Rattle.std.proofs.Math.Path.{fun_ext}
use Rattle.std.specs.HashMap.{HashMap, IsReordered, IsClone}
use Rattle.std.specs.Map.{lookup}
use Rattle.std.specs.List.{AllZip, list_any, each_same}
use Rattle.std.specs.Bool.{Decides}
use Rattle.std.proofs.lemmas.Map.Made.{is_member-Decides}
use Rattle.firefly_outside.specs.MemTrees.{IsWhole, reported_by, node_of}
use Rattle.firefly_outside.specs.declared.place.Place.{Place}
use Rattle.firefly_outside.specs.declared.tree.Entry.{Entry}
use Rattle.firefly_outside.specs.declared.tree.Kind.{Kind}
use Rattle.firefly_outside.proofs.PathLemmas.{child-unique, plain-slash}

-- two paths are the same or not, and the test tells it
pub path_cases : (p q : Path) → ((p ≡ q) × (pointwise nat_eq p q ≡ true)) ⊎ ((p ≢ q) × (pointwise nat_eq p q ≡ false))
path_cases p q =
    let same = slice_eq-Decides Decides-eqb p q (pointwise nat_eq p q) refl in
    elim (cases_Bool (pointwise nat_eq p q)) [ inl t ↦ inl (same.0 t, t) | inr f ↦ inr ((λ e. let bad : true ≡ false = sym (same.1 e) ∙ f in cc), f) ]

-- a child's path isn't the directory's
pub child-differs : (dir name : Path) → child dir name ≢ dir
child-differs dir name same = absurd (omega (arith, ap length same, length-append dir (slash ∷ name)))

-- the test of equal paths
path_test : (p q : Path) → p ≡ q → pointwise nat_eq p q ≡ true
path_test p q same = elim (path_cases p q) [ inl t ↦ t.1 | inr f ↦ absurd (f.0 same) ]

-- what one more child in the directory dir gives at dir
at_parent : (old : Contents) (dir name d n : Path) (kind : Kind) (es : List Entry) → dir ≡ d → name ≡ n → old d ≡ Some (Directory es)
    → (if pointwise nat_eq dir d then option_map (λ n. with_last n (record { name = name; kind = kind })) (old d) else old d) ≡ Some (Directory (es ++ record { name = n; kind = kind } ∷ []))
at_parent old dir name d n kind es same called had =
    rw (path_test dir d same, had) (ap (λ m. Some (Directory (es ++ record { name = m; kind = kind } ∷ []))) called)

-- a path with no directory stays as it is
beside_parent : (old : Contents) (dir q : Path) (e : Entry) → (dir ≡ q → (es : List Entry) → old q ≢ Some (Directory es))
    → (if pointwise nat_eq dir q then option_map (λ n. with_last n e) (old q) else old q) ≡ old q
beside_parent old dir q e none = elim (path_cases dir q) [
  | inl t ↦ rw t.1 (same_there (old q) (none t.0))
  | inr f ↦ rw f.1 refl
]
  where
    same_there : (o : Option Node) → ((es : List Entry) → o ≢ Some (Directory es)) → option_map (λ n. with_last n e) o ≡ o
    same_there None h = refl
    same_there (Some (Directory es)) h = absurd (h es refl)
    same_there (Some (Bytes bs)) h = refl

-- what naming a child in the directory dir gives at each path
pub Names-from_parent : (old new : Contents) (path dir name : Path) (kind : Kind) → path ≡ child dir name → All (λ b. b ≢ slash) name
    → ((q : Path) → new q ≡ (if pointwise nat_eq dir q then option_map (λ n. with_last n (record { name = name; kind = kind })) (old q) else old q))
    → Names old new path kind
Names-from_parent old new path dir name kind is plain each = record {
  named = λ d n es same free had.
      let one = child-unique dir d name n (sym is ∙ same) plain free in
      each d ∙ at_parent old dir name d n kind es one.0 one.1 had;
  others = λ q none.
      each q ∙ beside_parent old dir q (record { name = name; kind = kind }) (λ same es. none name es (is ∙ ap (λ d. child d name) same) plain);
}

-- a path with no slash has no parent
pub Names-from_none : (t : Contents) (path : Path) (kind : Kind) → All (λ b. b ≢ slash) path → Names t t path kind
Names-from_none t path kind plain = record {
  named = λ d n es same free had. absurd (plain-slash path d n same plain);
  others = λ q none. refl;
}

-- the node that is put at the path, over a tree in which its parent names it, is added
pub Adds-from_names : (old mid new : Contents) (path : Path) (kind : Kind) (node : Node) → IsBare old ⊎ HasParent old path → Names old mid path kind
    → ((q : Path) → new q ≡ (if pointwise nat_eq path q then Some node else mid q))
    → Adds old new path kind node
Adds-from_names old mid new path kind node under names each = record {
  added = each path ∙ rw (path_test path path refl) refl;
  named = λ dir name es is had.
      each dir ∙ rw (apart dir name is.is) (names.named dir name es is.is is.lawful.plain had);
  others = λ q differs none.
      each q ∙ rw (other q differs) (names.others q (lawful_only q none under));
}
  where
    other : (q : Path) → q ≢ path → pointwise nat_eq path q ≡ false
    other q differs = elim (path_cases path q) [ inl t ↦ absurd (differs (sym t.0)) | inr f ↦ f.1 ]

    apart : (dir name : Path) → path ≡ child dir name → pointwise nat_eq path dir ≡ false
    apart dir name is = other dir (λ e. child-differs dir name (sym is ∙ sym e))

    lawful_only : (q : Path) → ((name : Path) (es : List Entry) → IsChild q name path → old q ≢ Some (Directory es)) → IsBare old ⊎ HasParent old path
        → (name : Path) (es : List Entry) → path ≡ child q name → All (λ b. b ≢ slash) name → old q ≢ Some (Directory es)
    lawful_only q none (inl bare) name es is plain had = let bad : None ≡ Some (Directory es) = sym (bare q) ∙ had in cc
    lawful_only q none (inr under) name es is plain had =
        let one = child-unique q under.dir name under.name (sym is ∙ under.under.is) plain under.under.lawful.plain in
        none name es (record { lawful = rw one.1 under.under.lawful; is = is }) had

-- the entries of a directory of the new tree: none, those of the old one, or these and the path's
data CameFrom (old : Contents) (path : Path) (kind : Kind) (dir : Path) (es : List Entry) : Type 0 where
  fresh : es ≡ [] → CameFrom old path kind dir es
  kept : old dir ≡ Some (Directory es) → CameFrom old path kind dir es
  more : (name : Path) (prefix : List Entry) → IsChild dir name path → old dir ≡ Some (Directory prefix) → es ≡ prefix ++ record { name = name; kind = kind } ∷ [] → CameFrom old path kind dir es

-- at another path than the one added, what is there is the old, or the parent with one more entry
data IsElsewhere (old new : Contents) (path : Path) (kind : Kind) (q : Path) : Type 0 where
  same : new q ≡ old q → IsElsewhere old new path kind q
  parent : (name : Path) (es : List Entry) → IsChild q name path → old q ≡ Some (Directory es) → new q ≡ Some (Directory (es ++ record { name = name; kind = kind } ∷ [])) → IsElsewhere old new path kind q

elsewhere : (old new : Contents) (path : Path) (kind : Kind) (node : Node) → Adds old new path kind node → IsBare old ⊎ HasParent old path → (q : Path) → q ≢ path → IsElsewhere old new path kind q
elsewhere old new path kind node adds (inl bare) q differs = same (adds.others q differs (λ name es is had. let bad : None ≡ Some (Directory es) = sym (bare q) ∙ had in cc))
elsewhere old new path kind node adds (inr under) q differs = elim (path_cases under.dir q) [
  | inl t ↦
      let is : IsChild q under.name path = subst (λ d. IsChild d under.name path) t.0 under.under in
      let had : old q ≡ Some (Directory under.entries) = subst (λ d. old d ≡ Some (Directory under.entries)) t.0 under.here in
      parent under.name under.entries is had (adds.named q under.name under.entries is had)
  | inr f ↦ same (adds.others q differs (λ name es is had.
      f.0 (child-unique under.dir q under.name name (sym under.under.is ∙ is.is) under.under.lawful.plain is.lawful.plain).0))
]

came_from : (old new : Contents) (path : Path) (kind : Kind) (node : Node) → IsBare old ⊎ HasParent old path → IsLeaf node → Adds old new path kind node
    → (dir : Path) (es : List Entry) → new dir ≡ Some (Directory es) → CameFrom old path kind dir es
came_from old new path kind node under leaf adds dir es has = elim (path_cases dir path) [
  | inl t ↦ fresh (no_entries node leaf (sym adds.added ∙ ap new (sym t.0) ∙ has))
  | inr f ↦ others (elsewhere old new path kind node adds under dir f.0)
]
  where
    no_entries : (n : Node) → IsLeaf n → Some n ≡ Some (Directory es) → es ≡ []
    no_entries (Directory ds) none is = let e : ds ≡ es = cc in sym e ∙ none
    no_entries (Bytes bs) none is = cc

    others : IsElsewhere old new path kind dir → CameFrom old path kind dir es
    others (same e) = kept (sym e ∙ has)
    others (parent name prefix is had now) =
        let e : prefix ++ record { name = name; kind = kind } ∷ [] ≡ es = let both : Some (Directory (prefix ++ record { name = name; kind = kind } ∷ [])) ≡ Some (Directory es) = sym now ∙ has in cc in
        more name prefix is had (sym e)

-- what is there stays there
stays_there : (old new : Contents) (path : Path) (kind : Kind) (node : Node) → Adds old new path kind node → IsBare old ⊎ HasParent old path → (q : Path) → old q ≢ None → new q ≢ None
stays_there old new path kind node adds under q had = elim (path_cases q path) [
  | inl t ↦ λ gone. let bad : None ≡ Some node = sym gone ∙ ap new t.0 ∙ adds.added in cc
  | inr f ↦ others (elsewhere old new path kind node adds under q f.0)
]
  where
    others : IsElsewhere old new path kind q → new q ≢ None
    others (same e) = λ gone. had (sym e ∙ gone)
    others (parent name es is was now) = λ gone. let bad : None ≡ Some (Directory (es ++ record { name = name; kind = kind } ∷ [])) = sym gone ∙ now in cc

-- the entries with one for a path that isn't in the tree
more_entries : (old : Contents) (path dir name : Path) (kind : Kind) (prefix : List Entry) → IsWhole old → old path ≡ None → IsChild dir name path → old dir ≡ Some (Directory prefix)
    → AreEntries (prefix ++ record { name = name; kind = kind } ∷ [])
more_entries old path dir name kind prefix whole absent is had =
    let was : AreEntries prefix = whole.entries dir prefix had in
    record {
      names = All-append (λ e. IsName e.name) prefix (record { name = name; kind = kind } ∷ []) was.names (All-cons (λ e. IsName e.name) (record { name = name; kind = kind }) [] is.lawful (All-nil (λ e. IsName e.name)));
      distinct = all_pairs_push (λ e f. e.name ≢ f.name) prefix (record { name = name; kind = kind }) was.distinct
          (λ k d within called. whole.children dir prefix (get_or prefix k d) had (k, within, get_or_default prefix k _ d within) (ap (λ n. old (child dir n)) called ∙ ap old (sym is.is) ∙ absent));
    }

-- a tree to which a place without entries was added is whole
pub IsWhole-add : (old new : Contents) (path : Path) (kind : Kind) (node : Node) → IsWhole old → old path ≡ None → IsBare old ⊎ HasParent old path → IsLeaf node
    → Adds old new path kind node → IsWhole new
IsWhole-add old new path kind node whole absent under leaf adds = record {
  entries = λ dir es has. lawful dir es (came_from old new path kind node under leaf adds dir es has);
  children = λ dir es e has among. there dir es e among (came_from old new path kind node under leaf adds dir es has);
}
  where
    lawful : (dir : Path) (es : List Entry) → CameFrom old path kind dir es → AreEntries es
    lawful dir es (fresh none) = subst AreEntries (sym none) (record { names = All-nil (λ e. IsName e.name); distinct = λ i j d below within. absurd (omega arith) })
    lawful dir es (kept had) = whole.entries dir es had
    lawful dir es (more name prefix is had all) = subst AreEntries (sym all) (more_entries old path dir name kind prefix whole absent is had)

    there : (dir : Path) (es : List Entry) (e : Entry) → Contains es e → CameFrom old path kind dir es → new (child dir e.name) ≢ None
    there dir es e among (fresh none) = absurd (omega (arith, ap length none, among.1))
    there dir es e among (kept had) = stays_there old new path kind node adds under (child dir e.name) (whole.children dir es e had among)
    there dir es e among (more name prefix is had all) = elim (Contains-push_cases prefix (record { name = name; kind = kind }) e (subst (λ l. Contains l e) all among)) [
      | inl before ↦ stays_there old new path kind node adds under (child dir e.name) (whole.children dir prefix e had before)
      | inr last ↦ λ gone. let bad : None ≡ Some node = sym gone ∙ ap (λ (f : Entry). new (child dir f.name)) (sym last) ∙ ap new (sym is.is) ∙ adds.added in cc
    ]

-- the tree stays as it is where the map takes another order
pub reported_by-reordered : {S : Type 0} (m n : HashMap Path Place S) → IsReordered (pointwise nat_eq) m n → reported_by n ≡ reported_by m
reported_by-reordered m n r = fun_ext (λ q. ap (option_map node_of) (r.2 q))

-- look-ups over entries that are clones one by one
lookup-clones : (es fs : List (Path × Place)) (q : Path) → AllZip (λ x y. (y.0 ≡ x.0) × (node_of y.1 ≡ node_of x.1)) es fs
    → option_map node_of (lookup (pointwise nat_eq q) fs) ≡ option_map node_of (lookup (pointwise nat_eq q) es)
lookup-clones [] [] q h = refl
lookup-clones [] (f ∷ fs) q h = absurd h
lookup-clones (e ∷ es) [] q h = absurd h
lookup-clones (e ∷ es) (f ∷ fs) q h = rw h.0.0 (at (pointwise nat_eq q e.0) (lookup-clones es fs q h.1))
  where
    at : (b : Bool) → option_map node_of (lookup (pointwise nat_eq q) fs) ≡ option_map node_of (lookup (pointwise nat_eq q) es)
        → option_map node_of (if b then Some f.1 else lookup (pointwise nat_eq q) fs) ≡ option_map node_of (if b then Some e.1 else lookup (pointwise nat_eq q) es)
    at true rest = ap (λ n. Some n) h.0.1
    at false rest = rest

-- the tree of a map's clone
pub reported_by-clone : {S : Type 0} (m n : HashMap Path Place S) → IsClone (λ x y. y ≡ x) (λ x y. node_of y ≡ node_of x) m n → reported_by n ≡ reported_by m
reported_by-clone m n h = fun_ext (λ q. lookup-clones m.entries n.entries q h)

-- what `contains` answers of paths
pub list_any-Decides : (ps : List Path) (p : Path) → Decides (list_any (λ q. pointwise nat_eq q p) ps) (Contains ps p)
list_any-Decides ps p = is_member-Decides {eq = λ a b. pointwise nat_eq b a} (λ a b. let d = slice_eq-Decides Decides-eqb b a (pointwise nat_eq b a) refl in (λ t. sym (d.0 t), λ e. d.1 (sym e))) ps p

-- the entries that a directory's copy shows
pub IsListing-copy : (t : Contents) (dir : Path) (es copy : List Entry) → IsWhole t → t dir ≡ Some (Directory es) → AllZip (λ x y. y ≡ x) es copy → AreEntries copy × IsListing t dir copy
IsListing-copy t dir es copy whole here zipped =
    let same : copy ≡ es = each_same es copy zipped in (
      subst AreEntries (sym same) (whole.entries dir es here),
      record { entries = es; here = here; same = λ e. subst (λ l. Contains l e ↔ Contains es e) (sym same) (λ h. h, λ h. h) },
    )
