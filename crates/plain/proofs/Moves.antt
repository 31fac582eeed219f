-- What a call moves in each class: from the confirmed to the committed requests, and into the committed cells. Assumes nothing.
use Prim.Native.Nat.{ℕ, ◌<◌}
use mathlib.Core.Path.{◌≡◌, refl, sym, ap, ◌∙◌}
use mathlib.Core.Bool.{Bool, true, false}
use mathlib.Core.Option.{Option, none, some}
use mathlib.Core.List.{List, [], ◌∷◌, ◌++◌, append-nil}
use lib.Dec.{eqb}
use borrow.Author.Tests.{eqb-true, eqb-false, eq-eqb, ne_eqb}
use Rattle.plain.specs.Ops.{Request, run_all}
use Rattle.plain.specs.Record.{request_in}
use Rattle.plain.specs.Queue.{Item, booking, reading, id_is, asks, asked, first_of, entry_of, confirmed_part}
use Rattle.plain.specs.Steps.{Class, Did, Answer, committed, ending, work_step, offer_step, confirm_step, query_step}
use Rattle.plain.specs.Site.{Site, Call, offer, work, confirm, read, look, query, call, act, accepts, class_of}
use Rattle.plain.specs.Site.{in_class, entry_at, confirmed_at, commit_of, slot_free, free_place, named}
use Rattle.plain.specs.Sound.{Belongs, SoundSite}
use Rattle.plain.specs.History.{request_of, under, confirmed_by, committed_by, of_class, requests}
use Rattle.plain.proofs.Tests.{by_test}
use Rattle.plain.proofs.Items.{Alike, ending_committed}
use Rattle.plain.proofs.Queues.{asked_append, all_first, first_passes, first_any}
use Rattle.plain.proofs.Steps.{Works, unconcerned, one_done, last_done}
use Rattle.plain.proofs.Confirming.{Confirms, at_once, later}
use Rattle.plain.proofs.Sites.{at_other, class_is, work_accepted, confirm_accepted, named_below}
use Rattle.plain.proofs.Accepted.{id_lasts, work_both, confirm_both, offer_both, query_both}

-- the confirmed part with one more
part_more : (k k' : Class) (x : Item) → confirmed_part k'.queue ≡ confirmed_part k.queue ++ (x ∷ [])
    → asked (confirmed_part k'.queue) ≡ asked (confirmed_part k.queue) ++ asks x
part_more k k' x p =
    ap asked p
    ∙ asked_append (confirmed_part k.queue) (x ∷ [])
    ∙ ap (λ (l : List Request). asked (confirmed_part k.queue) ++ l) (append-nil (asks x))

-- What a step does to a class, cf being what it confirmed of the class and cm what it committed
pub record Moves (k k' : Class) (cf cm : List Request) : Type 0 where
  pub log : asked (confirmed_part k.queue) ++ cf ≡ cm ++ asked (confirmed_part k'.queue)
  pub cells : k'.committed ≡ run_all k.committed cm

still : (k : Class) → Moves k k [] []
unfolding run_all
still k = record { log = append-nil _; cells = refl }

same_part : (k k' : Class) → confirmed_part k'.queue ≡ confirmed_part k.queue → k'.committed ≡ k.committed → Moves k k' [] []
unfolding run_all
same_part k k' p c = record { log = append-nil _ ∙ ap asked (sym p); cells = c }

-- the head x, which is y but for the work done, has ended, leaving the cells v
abbrev pub Ended : Class → Answer → List ℕ → Item → Item → Type 0
Ended k a v x y = ((f : Item → Bool) → f x ≡ true → first_of f k.queue ≡ some x) × Alike x y × (a ≡ ending y v)

worked_off : (k : Class) (d : Did) (cm : List Request) → (commit_of d.answer ≡ none → cm ≡ []) → ((x y : Item) → Ended k d.answer d.class.committed x y → cm ≡ asks x)
    → Works k d → Moves k d.class [] cm
unfolding run_all
worked_off k d cm z o (unconcerned p p' c a t) = rw (z a.0) (same_part k d.class (p' ∙ sym p) c)
worked_off k d cm z o (one_done x y rest p p' al l c a t) =
    rw (z a.0) (record { log = append-nil _ ∙ ap asked p ∙ ap (λ (l : List Request). l ++ asked rest) (sym al.asks_same) ∙ sym (ap asked p'); cells = c })
worked_off k d cm z o (last_done x y rest p p' al en l c a t) =
    rw (o x y (en, al, a)) (record { log = rw (append-nil, p, p'); cells = c })

confirmed_off : (i n : ℕ) (k : Class) (d : Did) (cf cm : List Request)
    → ((x : Item) → entry_of i k.queue ≡ some x → cf ≡ asks x) → (commit_of d.answer ≡ none → cm ≡ [])
    → ((x : Item) (b sl bk : ℕ) → entry_of i k.queue ≡ some x → d.answer ≡ committed i n b sl bk → cm ≡ asks x)
    → Confirms i n k d → Moves k d.class cf cm
unfolding run_all
confirmed_off i n k d cf cm f z o (at_once x b sl bk en p p' c a t) =
    rw (f x en, o x b sl bk en a) (record { log = rw (p, p') (sym (append-nil (asks x))); cells = c })
confirmed_off i n k d cf cm f z o (later x y back en m e p c a t) =
    rw (f x en, z (ap commit_of a)) (record { log = sym (part_more k d.class y p ∙ rw m.asks_same); cells = c })

-- of one request, those of a class
mine : (c : ℕ) (x : Item) → Belongs c x → of_class c (asks x) ≡ asks x
mine c (booking e) b = rw (eq-eqb e.request.class c b.class)
mine c (reading p n) b = refl

others : (c d : ℕ) (x : Item) → Belongs c x → (d ≡ c → ⊥) → of_class d (asks x) ≡ []
others c d (booking e) b n = rw (ne_eqb e.request.class d (λ p. n (sym p ∙ b.class)))
others c d (reading p m) b n = refl

pub nothing_committed : (s : Site) (a : Answer) → commit_of a ≡ none → committed_by s a ≡ []
unfolding committed_by
nothing_committed s a e = rw (e, committed_by)

-- .. on a site
module _ (s : Site) (w : SoundSite s) where
  pub found : (c i : ℕ) (x : Item) → c < 16 → entry_of i (s.class c).queue ≡ some x → request_of (entry_at s i) ≡ asks x
  found c i x l en =
      let p : class_of s i ≡ c = class_is s i c w l (first_any (id_is i) (id_is i) (s.class c).queue x en (first_passes (id_is i) (s.class c).queue x en)) in
      rw (p, en)

  belongs : (c i : ℕ) (x : Item) → c < 16 → entry_of i (s.class c).queue ≡ some x → Belongs c x
  belongs c i x l en = all_first (Belongs c) (id_is i) (s.class c).queue x en (w.each c l).belong

  -- what a call confirmed and committed of class d
  abbrev cf : Call → ℕ → List Request
  cf k d = of_class d (requests (confirmed_by s k))

  abbrev cm : Answer → ℕ → List Request
  cm a d = of_class d (committed_by s a)

  -- a step in class c, as class d sees it
  in_class_lem : (c d : ℕ) (new : Option ℕ) (x : Did) (k : Call) → (d ≡ c → Moves (s.class c) x.class (cf k c) (cm x.answer c)) → ((d ≡ c → ⊥) → (cf k d ≡ []) × (cm x.answer d ≡ []))
      → Moves (s.class d) ((in_class s c new x).site.class d) (cf k d) (cm x.answer d)
  in_class_lem c d new x k f g =
      by_test (eqb d c)
      (λ t. let p : d ≡ c = eqb-true d c t in rw (p, eq-eqb c c refl) (f p))
      (λ t. let n : d ≡ c → ⊥ = eqb-false d c t in rw (at_other c x.class s.class d n, (g n).0, (g n).1) (still (s.class d)))

  -- an end's answer names one request of its class
  pub ended_is : (c : ℕ) (x y : Item) (a : Answer) (v : List ℕ) → c < 16 → Ended (s.class c) a v x y → (committed_by s a ≡ asks x) × Belongs c x
  ended_is c x y a v l e = (
    rw e.2 (ending_committed s y v (λ i h. found c i x l (e.0 (id_is i) (sym (e.1.tests (id_is i) (id_lasts i)) ∙ h)) ∙ sym e.1.asks_same) ∙ e.1.asks_same),
    all_first (Belongs c) (λ z. true) (s.class c).queue x (e.0 (λ z. true) refl) (w.each c l).belong,
  )

  work_moves : (c d : ℕ) → accepts s (work c) ≡ true → Moves (s.class d) ((act s (work c)).site.class d) (cf (work c) d) (cm (act s (work c)).answer d)
  unfolding act confirmed_by
  work_moves c d a =
      in_class_lem c d none x (work c)
      (λ p. worked_off (s.class c) x _ (λ z. rw (nothing_committed s _ z)) (λ y y' e. let f = ended_is c y y' _ _ l e in rw f.0 (mine c y f.1)) (work_both s w c a).1)
      (λ n. (refl, go n (work_both s w c a).1))
    where
      x : Did
      x = work_step (s.class c)

      l : c < 16
      l = (work_accepted s c a).0

      go : (d ≡ c → ⊥) → Works (s.class c) x → cm x.answer d ≡ []
      go n (unconcerned p p' y z t) = rw (nothing_committed s _ z.0)
      go n (one_done y y' rest p p' al m v z t) = rw (nothing_committed s _ z.0)
      go n (last_done y y' rest p p' al en m v an t) =
          let f = ended_is c y y' x.answer x.class.committed l (en, al, an) in rw f.0 (others c d y f.1 n)

  confirm_moves : (i n d : ℕ) → accepts s (confirm i n) ≡ true
      → Moves (s.class d) ((act s (confirm i n)).site.class d) (cf (confirm i n) d) (cm (act s (confirm i n)).answer d)
  unfolding act confirmed_by committed_by
  confirm_moves i n d a =
      in_class_lem c d (some i) x (confirm i n)
      (λ p. confirmed_off i n (s.class c) x _ _ (λ y en. took c y en (mine c y)) (λ z. rw (nothing_committed s _ z))
      (λ y b sl bk en an. gave c y b sl bk en an (mine c y)) (confirm_both s w i n a).1)
      (λ m. go m (confirm_both s w i n a).1)
    where
      c : ℕ
      c = class_of s i

      x : Did
      x = confirm_step i n (s.class c)

      l : c < 16
      l = (confirm_accepted s i n a).known

      under_one : (y : Item) → requests (under n (asks y)) ≡ asks y
      under_one y = under_all (asks y)
        where
          under_all : (r : List Request) → requests (under n r) ≡ r
          under_all [] = refl
          under_all (q ∷ r) = rw (under_all r)

      took : (d : ℕ) (y : Item) → entry_of i (s.class c).queue ≡ some y → {r : List Request} → (Belongs c y → of_class d (asks y) ≡ r) → cf (confirm i n) d ≡ r
      took d y en f = rw (a, found c i y l en, under_one y) (f (belongs c i y l en))

      gave : (d : ℕ) (y : Item) (b sl bk : ℕ) → entry_of i (s.class c).queue ≡ some y → x.answer ≡ committed i n b sl bk → {r : List Request}
          → (Belongs c y → of_class d (asks y) ≡ r) → cm x.answer d ≡ r
      gave d y b sl bk en an f = rw (an, found c i y l en) (f (belongs c i y l en))

      go : (d ≡ c → ⊥) → Confirms i n (s.class c) x → (cf (confirm i n) d ≡ []) × (cm x.answer d ≡ [])
      go m (at_once y b sl bk en p p' v an t) = (took d y en (λ f. others c d y f m), gave d y b sl bk en an (λ f. others c d y f m))
      go m (later y z back en r e p q an t) = (took d y en (λ f. others c d y f m), rw (nothing_committed s x.answer (ap commit_of an)))

  offer_moves : (b : List ℕ) (d : ℕ) → accepts s (offer b) ≡ true
      → Moves (s.class d) ((act s (offer b)).site.class d) (cf (offer b) d) (cm (act s (offer b)).answer d)
  unfolding act confirmed_by committed_by offer_step
  offer_moves b d a =
      let r = request_in b in
      in_class_lem r.class d none (offer_step r (slot_free s) (s.class r.class)) (offer b)
      (λ p. same_part (s.class r.class) _ (offer_both s w b a).part refl)
      (λ n. (refl, refl))

  act_moves : (k : Call) (d : ℕ) → accepts s k ≡ true → Moves (s.class d) ((act s k).site.class d) (cf k d) (cm (act s k).answer d)
  unfolding act confirmed_by committed_by
  act_moves (offer b) d a = offer_moves b d a
  act_moves (work c) d a = work_moves c d a
  act_moves (confirm i n) d a = confirm_moves i n d a
  act_moves (read c k) d a = still (s.class d)
  act_moves (look i) d a =
      by_test (confirmed_at (entry_at s i)) (λ t. rw t (still (s.class d))) (λ f. rw f (still (s.class d)))
  act_moves (query m) d a =
      by_test (named m d)
      (λ t. let j = query_both s w m d a (named_below m d t) in
      rw t (record { log = sym (part_more (s.class d) (query_step (free_place s) s.confirmations (s.class d)) (reading (free_place s) s.confirmations) j.part); cells = unfold run_all in j.cells }))
      (λ f. rw f (still (s.class d)))

  refused_moves : (k : Call) (d : ℕ) → accepts s k ≡ false → cf k d ≡ []
  unfolding confirmed_by
  refused_moves (offer b) d a = refl
  refused_moves (work c) d a = refl
  refused_moves (confirm i n) d a = rw a
  refused_moves (read c k) d a = refl
  refused_moves (look i) d a = refl
  refused_moves (query m) d a = refl

  pub call_moves : (k : Call) (d : ℕ) → Moves (s.class d) ((call s k).site.class d) (cf k d) (cm (call s k).answer d)
  unfolding call committed_by
  call_moves k d =
      by_test (accepts s k) (λ t. rw t (act_moves k d t)) (λ f. rw (f, refused_moves k d f) (still (s.class d)))
