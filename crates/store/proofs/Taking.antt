-- The walk over the places, which takes what it passes from what may stand: its turns, its breaches, and what it comes to. Assumes nothing.
use Prim.Native.Nat.{ℕ, zero, suc, ◌+◌, ◌*◌, ◌-◌, ◌<◌, ◌≤◌, ◌^◌}
use native.Mathlib.Omega.{arith}
use native.Mathlib.Numerals.{add-one}
use mathlib.Core.Path.{◌≡◌, refl, sym, ap, ◌∙◌}
use mathlib.Core.Logic.{inl, inr}
use mathlib.Core.Bool.{Bool, true, false, cond, ◌&&◌}
use mathlib.Core.List.{List, [], ◌∷◌, ◌++◌}
use lib.Dec.{eqb, ltb}
use lib.ListN.{length, get_or, take, drop, set, replicate, length-drop, get_or-eq_default}
use lib.Seq.{ext_get_or, take-suc, get_or-take, get_or-drop, get_or-set_same, get_or-set_other, length-take-le}
use borrow.Author.Tests.{eqb-true, eqb-false, eq-eqb, ne_eqb, ltb-true, ltb-false, lt-ltb, le-ltb}
use Rattle.plain.proofs.Tests.{by_test, no}
use Rattle.plain.proofs.Deciding.{decides_as}
use Rattle.plain.specs.Decides.{Decides}
use Rattle.plain.specs.Site.{named}
use Rattle.places.specs.Moves.{part}
use Rattle.queries.specs.declared.Query.{Query}
use Rattle.queries.specs.Table.{Shrunk, free_query}
use Rattle.usedmap.specs.Flags.{bits_of, used_of}
use Rattle.usedmap.proofs.Flags.{used_inj, used_length}
use Rattle.store.proofs.Lists.{times_append}
use Rattle.store.proofs.Masks.{none_named, some_named}
use Rattle.store.specs.Sound.{Short, times}
use Rattle.store.specs.Store.{query_at}
use Rattle.store.specs.Checks.{AllRead, Classed, InRange, MapOf, NamesNone, OnceIn, TooOften, Took, TookOne, flag_of, has_id, may_stand, nth}

neither : (b : Bool) → ◌≡◌ {A = ℕ} (cond (b && false) 1 0) 0
neither true = refl
neither false = refl

-- ONE IS TAKEN. A slot, whose flag is cleared
module _ (lo hi : ℕ) (class : ℕ → ℕ) (table : List Query) (c b : ℕ) (l : b < 128) where
  abbrev may : ℕ → ℕ → ℕ
  may = may_stand (flag_of lo hi) class table

  pub slot_taken : (lo' hi' : ℕ) → class b ≡ c → flag_of lo hi b ≡ true → used_of lo' hi' ≡ set (used_of lo hi) b false
      → TookOne may (may_stand (flag_of lo' hi') class table) c b
  slot_taken lo' hi' k f e = record {
    own = rw (lt-ltb b 128 l, off, f, eq-eqb (class b) c k);
    same_class = λ x n. kept c x n;
    others = λ d x _ n. by_test (eqb x b)
        (λ t. let q = eqb-true x b t in rw (q, lt-ltb b 128 l, ne_eqb (class b) d (λ h. n (sym h ∙ k)), neither (flag_of lo hi b), neither (flag_of lo' hi' b)))
        (λ g. kept d x (eqb-false x b g));
  }
    where
      off : flag_of lo' hi' b ≡ false
      off = ap (λ (fs : List Bool). get_or fs b false) e ∙ get_or-set_same (used_of lo hi) b false false (omega (arith, used_length lo hi))

      kept : (d x : ℕ) → (x ≡ b → ⊥) → may_stand (flag_of lo' hi') class table d x ≡ may d x
      kept d x n =
          let g : flag_of lo' hi' x ≡ flag_of lo hi x = ap (λ (fs : List Bool). get_or fs x false) e ∙ get_or-set_other (used_of lo hi) b x false false n in rw g

  pub other_class : (class b ≡ c → ⊥) → may c b ≡ 0
  other_class n = rw (lt-ltb b 128 l, ne_eqb (class b) c n, neither (flag_of lo hi b))

  pub not_used : flag_of lo hi b ≡ false → may c b ≡ 0
  not_used f = rw (lt-ltb b 128 l, f)

-- a query, whose class is read
module _ (used : ℕ → Bool) (class : ℕ → ℕ) (table : List Query) (c b : ℕ) (h : 128 ≤ b) where
  abbrev may' : ℕ → ℕ → ℕ
  may' = may_stand used class table

  pub query_taken : (v : Query) → c < 16 → b - 128 < length table → named (query_at table (b - 128)).classes c ≡ true → Shrunk (query_at table (b - 128)).classes c v.classes
      → TookOne may' (may_stand used class (set table (b - 128) v)) c b
  query_taken v l k t s = record {
    own = rw (le-ltb b 128 h, here, s.own, t);
    same_class = λ x n. elsewhere c x n;
    others = λ d x m n. by_test (eqb x b)
        (λ y. let q = eqb-true x b y in rw (q, le-ltb b 128 h, here, s.others d m n))
        (λ g. elsewhere d x (eqb-false x b g));
  }
    where
      here : query_at (set table (b - 128) v) (b - 128) ≡ v
      here = get_or-set_same table (b - 128) v free_query k

      elsewhere : (d x : ℕ) → (x ≡ b → ⊥) → may_stand used class (set table (b - 128) v) d x ≡ may' d x
      elsewhere d x n = by_test (ltb x 128)
          (λ y. rw y)
          (λ f. let g = ltb-false x 128 f in rw (f, get_or-set_other table (b - 128) (x - 128) v free_query (λ e. n (omega arith))))

  pub not_named : named (query_at table (b - 128)).classes c ≡ false → may' c b ≡ 0
  not_named f = rw (le-ltb b 128 h, f)

-- a byte that is neither
pub past_all : (used : ℕ → Bool) (class : ℕ → ℕ) (table : List Query) → length table ≡ 8 → (c b : ℕ) → 136 ≤ b → may_stand used class table c b ≡ 0
past_all used class table n c b h =
    let z : query_at table (b - 128) ≡ free_query = get_or-eq_default table free_query (omega arith) in
    rw (le-ltb b 128 (omega arith), z, none_named c)

-- THE PLACES OF A CLASS
module _ (may : ℕ → ℕ → ℕ) (queue : List ℕ) (long : length queue ≡ 2176) (c : ℕ) (l : c < 16) where
  part_long : length (part queue c) ≡ 136
  part_long = length-take-le 136 (drop (136 * c) queue) (omega (arith, length-drop (136 * c) queue))

  pub none_taken : Took may may queue c 0
  none_taken = record { own = λ b. omega arith; others = λ d b _ _. refl }

  module _ (rest : ℕ → ℕ → ℕ) (p : ℕ) (k : p < 136) (h : Took may rest queue c p) where
    abbrev x : ℕ
    x = nth queue (136 * c + p)

    next : take (suc p) (part queue c) ≡ take p (part queue c) ++ (x ∷ [])
    next =
        take-suc (part queue c) p 0 (omega (arith, part_long))
        ∙ ap (λ (y : ℕ). take p (part queue c) ++ (y ∷ [])) (get_or-take 136 (drop (136 * c) queue) p 0 k ∙ get_or-drop (136 * c) queue p 0)

    at_x : times x (take (suc p) (part queue c)) ≡ suc (times x (take p (part queue c)))
    at_x = ap (times x) next ∙ times_append x (take p (part queue c)) (x ∷ []) ∙ rw (eq-eqb x x refl) (omega arith)

    at_other : (b : ℕ) → (b ≡ x → ⊥) → times b (take (suc p) (part queue c)) ≡ times b (take p (part queue c))
    at_other b n = ap (times b) next ∙ times_append b (take p (part queue c)) (x ∷ []) ∙ rw (ne_eqb x b (λ e. n (sym e))) (omega arith)

    pub one_taken : (rest' : ℕ → ℕ → ℕ) → TookOne rest rest' c x → Took may rest' queue c (p + 1)
    one_taken rest' t = rw add-one (record {
      own = λ b. by_test (eqb b x)
          (λ y. let q = eqb-true b x y in rw q (omega (arith, at_x, h.own x, t.own)))
          (λ f. let n = eqb-false b x f in omega (arith, at_other b n, h.own b, t.same_class b n));
      others = λ d b m n. t.others d b m n ∙ h.others d b m n;
    })

    pub too_often : (n : ℕ) → p < n → rest c x ≡ 0 → TooOften may queue c n
    too_often n m z = (x, more)
      where
        part_of : (j k : ℕ) (ps : List ℕ) → j ≤ k → times x (take j ps) ≤ times x (take k ps)
        part_of zero k ps i = omega arith
        part_of (suc j) zero ps i = absurd (omega arith)
        part_of (suc j) (suc k) [] i = omega arith
        part_of (suc j) (suc k) (y ∷ ps) i = let r = part_of j k ps (omega arith) in by_test (eqb y x) (λ t. rw t (omega arith)) (λ f. rw f r)

        more : may c x < times x (take n (part queue c))
        more = omega (arith, h.own x, at_x, part_of (suc p) n (part queue c) (omega arith))

-- ALL CLASSES: what the walk knows before class c
pub record Seen (may rest : ℕ → ℕ → ℕ) (queue lens : List ℕ) (c : ℕ) : Type 0 where
  pub passed : (d b : ℕ) → d < c → times b (take (nth lens d) (part queue d)) + rest d b ≡ may d b
  pub ahead : (d b : ℕ) → c ≤ d → d < 16 → rest d b ≡ may d b

module _ (may : ℕ → ℕ → ℕ) (queue lens : List ℕ) where
  pub none_seen : Seen may may queue lens 0
  none_seen = record { passed = λ d b l. absurd (omega arith); ahead = λ d b _ _. refl }

  module _ (rest : ℕ → ℕ → ℕ) (c : ℕ) (l : c < 16) (h : Seen may rest queue lens c) where
    pub one_seen : (rest' : ℕ → ℕ → ℕ) → Took rest rest' queue c (nth lens c) → Seen may rest' queue lens (c + 1)
    one_seen rest' t = record {
      passed = λ d b m. by_test (eqb d c)
          (λ y. let q = eqb-true d c y in rw q (omega (arith, t.own b, h.ahead c b (omega arith) l)))
          (λ f. let n = eqb-false d c f in omega (arith, t.others d b (omega arith) n, h.passed d b (omega arith)));
      ahead = λ d b m k. t.others d b k (λ e. omega arith) ∙ h.ahead d b (omega arith) k;
    }

    pub not_once : TooOften rest queue c (nth lens c) → ((d b : ℕ) → d < 16 → times b (take (nth lens d) (part queue d)) ≡ may d b) → ⊥
    not_once t once = absurd (omega (arith, t.1, once c t.0 l, h.ahead c t.0 (omega arith) l))

  -- at the end the rule holds exactly where nothing is left that may stand
  module _ (rest : ℕ → ℕ → ℕ) (c : ℕ) (l : 16 ≤ c) (h : Seen may rest queue lens c) where
    pub spent : ((d b : ℕ) → d < 16 → times b (take (nth lens d) (part queue d)) ≡ may d b) → (d b : ℕ) → d < 16 → rest d b ≡ 0
    spent once d b k = omega (arith, once d b k, h.passed d b (omega arith))

    pub once_of : ((d b : ℕ) → d < 16 → rest d b ≡ 0) → (d b : ℕ) → d < 16 → times b (take (nth lens d) (part queue d)) ≡ may d b
    once_of z d b k = omega (arith, z d b k, h.passed d b (omega arith))

-- nothing is left: no slot is marked, and no query has a class still to read
get_same : (n i : ℕ) → get_or (replicate n false) i false ≡ false
get_same zero i = refl
get_same (suc n) zero = refl
get_same (suc n) (suc i) = get_same n i

none_flagged : (i : ℕ) → flag_of 0 0 i ≡ false
unfolding used_of bits_of
none_flagged i = get_same 128 i

pub nothing_left : (class : ℕ → ℕ) (table : List Query) (lo hi : ℕ) → ((i : ℕ) → i < 128 → flag_of lo hi i ≡ false) → AllRead table
    → (d b : ℕ) → d < 16 → may_stand (flag_of lo hi) class table d b ≡ 0
nothing_left class table lo hi a r d b l =
    by_test (ltb b 128)
    (λ t. rw (t, a b (ltb-true b 128 t)))
    (λ f. rw (f, r (b - 128) d l))

-- the map marks no slot exactly where both its words are 0
pub no_flags : (lo hi : ℕ) → lo ≡ 0 → hi ≡ 0 → (i : ℕ) → flag_of lo hi i ≡ false
no_flags lo hi a b i = rw (a, b) (none_flagged i)

pub words_zero : (lo hi : ℕ) → lo < 2 ^ 64 → hi < 2 ^ 64 → ((i : ℕ) → i < 128 → flag_of lo hi i ≡ false) → (lo ≡ 0) × (hi ≡ 0)
words_zero lo hi a b free =
    used_inj lo hi 0 0 a b (omega arith) (omega arith)
    (ext_get_or false (used_of lo hi) (used_of 0 0) (used_length lo hi ∙ sym (used_length 0 0)) (λ i l. free i (omega (arith, used_length lo hi)) ∙ sym (none_flagged i)))

pub read_past : (table : List Query) → length table ≡ 8 → ((p : ℕ) → p < 8 → NamesNone (query_at table p).classes) → AllRead table
read_past table n h p = by_test (ltb p 8)
    (λ t. h p (ltb-true p 8 t))
    (λ f d _. let z : query_at table p ≡ free_query = get_or-eq_default table free_query (omega (arith, ltb-false p 8 f)) in rw (z, none_named d))

module _ (class : ℕ → ℕ) (table : List Query) (lo hi : ℕ) (k : Classed class) (z : (d b : ℕ) → d < 16 → may_stand (flag_of lo hi) class table d b ≡ 0) where
  pub all_free : (i : ℕ) → i < 128 → flag_of lo hi i ≡ false
  all_free i l = by_test (flag_of lo hi i)
      (λ t. let e : ◌≡◌ {A = ℕ} 1 0 = rw (lt-ltb i 128 l, t, eq-eqb (class i) (class i) refl) at (z (class i) i (k i l)) in absurd (omega arith))
      (λ f. f)

  pub all_read : AllRead table
  all_read p c m = by_test (named (query_at table p).classes c)
      (λ t. let s : 128 + p - 128 ≡ p = omega arith in
      let e : ◌≡◌ {A = ℕ} 1 0 = rw (le-ltb (128 + p) 128 (omega arith), s, t) at (z c (128 + p) m) in absurd (omega arith))
      (λ f. f)

-- a mask that is not 0 names a class
pub names_zero : (m : ℕ) → m < 2 ^ 16 → NamesNone m → m ≡ 0
names_zero m b h = elim (some_named m b) [ inl e ↦ e | inr e ↦ no _ e.2 (h e.0 e.1) ]

pub names_none_lem : (m c : ℕ) → m ≡ 0 → named m c ≡ false
names_none_lem m c e = rw e (none_named c)

-- the map agrees: the rule by flags is the rule by ids
pub once_by_ids : {b : Bool} (low high : ℕ) (id class : ℕ → ℕ) (table : List Query) (queue lens : List ℕ) → MapOf low high id
    → Decides b (OnceIn (flag_of low high) class table queue lens) → Decides b (OnceIn (has_id id) class table queue lens)
once_by_ids low high id class table queue lens m = decides_as (λ h c b l. h c b l ∙ same c b) (λ h c b l. h c b l ∙ sym (same c b))
  where
    same : (c b : ℕ) → may_stand (flag_of low high) class table c b ≡ may_stand (has_id id) class table c b
    same c b = by_test (ltb b 128) (λ t. rw (t, m b (ltb-true b 128 t))) (λ f. rw f)

-- what stands at a place stands there
there : (x : ℕ) (ps : List ℕ) (i : ℕ) → i < length ps → get_or ps i 0 ≡ x → 0 < times x ps
there x [] i j e = absurd (omega arith)
there x (y ∷ ps) zero j e = rw (eq-eqb y x e) (omega arith)
there x (y ∷ ps) (suc i) j e = by_test (eqb y x) (λ t. rw t (omega arith)) (λ f. rw f (there x ps i (omega arith) e))

-- a place that counts names a slot or a query
module _ (used : ℕ → Bool) (class : ℕ → ℕ) (table : List Query) (queue lens : List ℕ) (n : length queue ≡ 2176) (m : length table ≡ 8) (short : Short lens) (once : OnceIn used class table queue lens) where
  pub range_of : InRange queue lens
  range_of c l p k =
      by_test (ltb x 136) (ltb-true x 136)
      (λ f. absurd (omega (arith, once c x l, past_all used class table m c x (ltb-false x 136 f), there x (take (nth lens c) (part queue c)) p (omega (arith, count)) at)))
    where
      x : ℕ
      x = nth queue (136 * c + p)

      inner : length (part queue c) ≡ 136
      inner = length-take-le 136 (drop (136 * c) queue) (omega (arith, length-drop (136 * c) queue))

      count : length (take (nth lens c) (part queue c)) ≡ nth lens c
      count = length-take-le (nth lens c) (part queue c) (omega (arith, inner, short c l))

      at : get_or (take (nth lens c) (part queue c)) p 0 ≡ nth queue (136 * c + p)
      at = get_or-take (nth lens c) (part queue c) p 0 k ∙ get_or-take 136 (drop (136 * c) queue) p 0 (omega (arith, short c l)) ∙ get_or-drop (136 * c) queue p 0
