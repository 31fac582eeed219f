-- `Site::fresh` meets its contract: the empty site, and both runs cleared where they are right. Assumes nothing.
use Prim.Native.Nat.{ℕ}
use mathlib.Core.Path.{◌≡◌, refl, ap, ◌∙◌}
use mathlib.Core.Logic.{inl, inr}
use lib.ListN.{replicate}
use Rattle.store.specs.Calls.{fresh}
use Rattle.slots.proofs.Free.{is_free}
use Rattle.queries.specs.declared.Query.{Query}
use Rattle.queries.specs.Table.{free_query}
use Rattle.site.proofs.Site.fresh.Goals as goal

-- what `Query::default` gives is the free place
free_place : (q : Query) → (q.classes ≡ 0) × (q.begun ≡ 0) → q ≡ free_query
free_place q z = λ i. record { classes = z.0 i; begun = z.1 i }

pub returns-then-committed-ne-RUN : goal.returns-then-committed-ne-RUN
unfolding fresh
returns-then-committed-ne-RUN c = record {
  site = rw (is_free _ c.default.ensures, c.default-2.ensures.0, c.default-2.ensures.1, free_place _ c.default-3.ensures);
  wrong = λ n. (refl, refl, refl);
  right = λ a b. elim c.then-committed-ne-RUN.either [ inl n ↦ absurd (n a) | inr n ↦ absurd (n.1 b) ];
}

pub returns : goal.returns
unfolding fresh
returns c = record {
  site = rw (is_free _ c.default.ensures, c.default-2.ensures.0, c.default-2.ensures.1, free_place _ c.default-3.ensures);
  wrong =
      λ n. absurd (n (c.if-committed-ne-RUN.false, c.if-working-ne-RUN.false));
  right =
      let c = c in
      λ a b. (refl, c.fill.ensures.after (λ y e. e) ∙ ap (λ (n : ℕ). replicate n 0) a, c.fill-2.ensures.after (λ y e. e) ∙ ap (λ (n : ℕ). replicate n 0) b);
}
