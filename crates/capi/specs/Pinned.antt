-- What the promises of the exports pin down: of each, any two outcomes (the struct, and every lent byte where the call writes) that keep its promise coincide, since the answer inside
-- does. Checked calls: for all inputs. Quick calls and a listing's step: as far as the calls inside are pinned down (docs/EXCEPTIONS.md). Assumes nothing.
use Rattle.std.specs.Prelude.{ℕ, ◌≡◌, List, Float}
use Rattle.std.proofs.Common.{ap}
use Rattle.bits.specs.Select.{Selected, position_of, selected_unique}
use Rattle.layout.specs.declared.numbers.Numbers.{Numbers}
use Rattle.layout.specs.Plans.{NeededAs, SpecifiedAs, PlannedAs}
use Rattle.layout.specs.Shapes.{ShapedAs}
use Rattle.layout.specs.Fresh.{MadeAs}
use Rattle.layout.specs.Verdicts.{Judged}
use Rattle.layout.specs.Pinned.{needed_qbits_pinned, filter_specs_pinned, plan_resizeable_pinned, new_pinned, fresh_pinned, check_pinned}
use Rattle.filter.specs.declared.listing.Place.{Place}
use Rattle.filter.specs.Asking.{Contains, ContainsQuick, Count, CountQuick}
use Rattle.filter.specs.Listing.{Begins, Listed}
use Rattle.layout.specs.Outcomes.{Settled}
use Rattle.filter.specs.Pinned.{Fixed, contains_fingerprint_pinned, contains_fingerprint_quick_pinned, count_fingerprint_pinned, count_fingerprint_quick_pinned, begin_pinned, step_from_pinned}
use Rattle.writing.specs.Writing.{Insert, InsertQuick, Remove, RemoveQuick}
use Rattle.writing.specs.Pinned.{InsertSettled, insert_fingerprint_counting_pinned, insert_fingerprint_counting_quick_pinned, remove_fingerprint_pinned, remove_fingerprint_quick_pinned}
use Rattle.growth.specs.Rebuilding.{Grows}
use Rattle.growth.specs.Merging.{Merges}
use Rattle.growth.specs.Spare.{InsertSpare, InsertSpareQuick}
use Rattle.growth.specs.Pinned.{rebuild_grown_pinned, insert_with_spare_pinned, insert_with_spare_quick_pinned}
use Rattle.growth.specs.Merged.{merge_pinned}
use Rattle.capi.specs.Shown.{shown_one, shown_written}
use Rattle.capi.specs.Planning as planning
use Rattle.capi.specs.Reading as reading
use Rattle.capi.specs.Reading.{OfAny}
use Rattle.capi.specs.Listing as listing
use Rattle.capi.specs.Writing as writing
use Rattle.capi.specs.Growing as growing
use Rattle.capi.specs.Merging as merging
use Rattle.capi.specs.declared.planning.Outcome.{Outcome}
use Rattle.capi.specs.declared.planning.Specs.{Specs}
use Rattle.capi.specs.declared.planning.Plan.{Plan}
use Rattle.capi.specs.declared.planning.Changed.{Changed}
use Rattle.capi.specs.declared.reading.Looked.{Looked}
use Rattle.capi.specs.declared.reading.Sizes.{Sizes}
use Rattle.capi.specs.declared.listing.First.{First}
use Rattle.capi.specs.declared.listing.Next.{Next}
use Rattle.capi.specs.declared.growing.SpareAnswer.{SpareAnswer}

-- ---- planning
pub strumblay_select_pinned : (x n a b : ℕ) → planning.PositionOf x n a → planning.PositionOf x n b → a ≡ b
strumblay_select_pinned x n = shown_one (Selected x n) (λ answer. planning.digit_of (position_of answer)) (selected_unique x n)

pub strumblay_slots_for_pinned : (c : ℕ) (a b : Outcome) → planning.NeededOutcome c a → planning.NeededOutcome c b → a ≡ b
strumblay_slots_for_pinned c = shown_one (NeededAs c) planning.needed_of (needed_qbits_pinned c)

pub strumblay_filter_specs_pinned : (c : ℕ) (rate : Float) (a b : Specs) → planning.SpecsOutcome c rate a → planning.SpecsOutcome c rate b → a ≡ b
strumblay_filter_specs_pinned c rate = shown_one (SpecifiedAs c rate) planning.specs_of (filter_specs_pinned c rate)

pub strumblay_plan_pinned : (initial most : ℕ) (rate : Float) (a b : Plan) → planning.PlanOutcome initial most rate a → planning.PlanOutcome initial most rate b → a ≡ b
strumblay_plan_pinned initial most rate = shown_one (PlannedAs initial most rate) planning.plan_of (plan_resizeable_pinned initial most rate)

pub strumblay_buffer_len_pinned : (q r : ℕ) (a b : Outcome) → planning.LengthOutcome q r a → planning.LengthOutcome q r b → a ≡ b
strumblay_buffer_len_pinned q r = shown_one (ShapedAs q r) planning.length_of (new_pinned q r)

pub strumblay_fresh_pinned : (s : List ℕ) (q r mx family : ℕ) (a b : Changed) (t u : List ℕ) → planning.FreshOutcome s q r mx family a t → planning.FreshOutcome s q r mx family b u → (a ≡ b) × (t ≡ u)
strumblay_fresh_pinned s q r mx family a b t u = shown_written (MadeAs s q r mx family) (planning.fresh_of q r mx family) t u (λ x y. fresh_pinned s q r mx family x y t u) a b

-- ---- check, lookup and count, of a record of these sizes
module _ (n : Sizes) (s : List ℕ) where
  abbrev record₀ : Numbers
  record₀ = reading.record_of n 0

  pub strumblay_check_pinned : (a b : ℕ) → OfAny n (λ m. reading.CheckOutcome m s a) → OfAny n (λ m. reading.CheckOutcome m s b) → a ≡ b
  strumblay_check_pinned a b x y = shown_one (Judged record₀ s) reading.verdict_of (check_pinned record₀ s) a b (x 0) (y 0)

  module _ (hash : ℕ) (a b : Looked) where
    pub strumblay_contains_pinned : OfAny n (λ m. reading.ContainsOutcome m s hash a) → OfAny n (λ m. reading.ContainsOutcome m s hash b) → a ≡ b
    strumblay_contains_pinned x y = shown_one (Contains record₀ s hash) reading.looked_of (contains_fingerprint_pinned record₀ s hash) a b (x 0) (y 0)

    pub strumblay_contains_quick_pinned : Settled record₀ s → OfAny n (λ m. reading.ContainsQuickOutcome m s hash a) → OfAny n (λ m. reading.ContainsQuickOutcome m s hash b) → a ≡ b
    strumblay_contains_quick_pinned d x y = shown_one (ContainsQuick record₀ s hash) reading.looked_of (contains_fingerprint_quick_pinned record₀ s hash d) a b (x 0) (y 0)

  module _ (hash : ℕ) (a b : Outcome) where
    pub strumblay_count_pinned : OfAny n (λ m. reading.CountOutcome m s hash a) → OfAny n (λ m. reading.CountOutcome m s hash b) → a ≡ b
    strumblay_count_pinned x y = shown_one (Count record₀ s hash) reading.counted_of (count_fingerprint_pinned record₀ s hash) a b (x 0) (y 0)

    pub strumblay_count_quick_pinned : Settled record₀ s → OfAny n (λ m. reading.CountQuickOutcome m s hash a) → OfAny n (λ m. reading.CountQuickOutcome m s hash b) → a ≡ b
    strumblay_count_quick_pinned d x y = shown_one (CountQuick record₀ s hash) reading.counted_of (count_fingerprint_quick_pinned record₀ s hash d) a b (x 0) (y 0)

  -- ---- listing
  pub strumblay_list_begin_pinned : (a b : First) → OfAny n (λ m. listing.BeginOutcome m s a) → OfAny n (λ m. listing.BeginOutcome m s b) → a ≡ b
  strumblay_list_begin_pinned a b x y = shown_one (Begins record₀ s) listing.begun_of (begin_pinned record₀ s) a b (x 0) (y 0)

  pub strumblay_list_step_pinned : (p : Place) → Fixed record₀ s p → (a b : Next) → OfAny n (λ m. listing.StepOutcome m s p a) → OfAny n (λ m. listing.StepOutcome m s p b) → a ≡ b
  strumblay_list_step_pinned p d a b x y = shown_one (Listed record₀ s p) (λ answer. listing.next_of answer.place answer.step) (step_from_pinned record₀ s p d) a b (x 0) (y 0)

module _ (n : Numbers) (s : List ℕ) where
  -- ---- insert and remove
  module _ (hash : ℕ) (a b : Changed) (t u : List ℕ) where
    pub strumblay_insert_pinned : (most : ℕ) → writing.InsertOutcome n hash most s a t → writing.InsertOutcome n hash most s b u → (a ≡ b) × (t ≡ u)
    strumblay_insert_pinned most = shown_written (Insert n hash most s) (writing.inserted_of n) t u (λ x y. insert_fingerprint_counting_pinned n hash most s x y t u) a b

    pub strumblay_insert_quick_pinned : (most : ℕ) → InsertSettled n most s → writing.InsertQuickOutcome n hash most s a t → writing.InsertQuickOutcome n hash most s b u → (a ≡ b) × (t ≡ u)
    strumblay_insert_quick_pinned most d = shown_written (InsertQuick n hash most s) (writing.inserted_of n) t u (λ x y. insert_fingerprint_counting_quick_pinned n hash most s x y t u d) a b

    pub strumblay_remove_pinned : writing.RemoveOutcome n hash s a t → writing.RemoveOutcome n hash s b u → (a ≡ b) × (t ≡ u)
    strumblay_remove_pinned = shown_written (Remove n hash s) (writing.removed_of n) t u (λ x y. remove_fingerprint_pinned n hash s x y t u) a b

    pub strumblay_remove_quick_pinned : Settled n s → writing.RemoveQuickOutcome n hash s a t → writing.RemoveQuickOutcome n hash s b u → (a ≡ b) × (t ≡ u)
    strumblay_remove_quick_pinned d = shown_written (RemoveQuick n hash s) (writing.removed_of n) t u (λ x y. remove_fingerprint_quick_pinned n hash s x y t u d) a b

  -- ---- growth and merge
  module _ (d : List ℕ) (a b : Changed) (t u : List ℕ) where
    pub strumblay_grow_pinned : growing.GrowOutcome n s d a t → growing.GrowOutcome n s d b u → (a ≡ b) × (t ≡ u)
    strumblay_grow_pinned = shown_written (Grows n s d) (growing.rebuilt_of n) t u (λ x y. rebuild_grown_pinned n s d x y t u) a b

    pub strumblay_merge_pinned : (m : Numbers) (o : List ℕ) (keep : ℕ) → merging.MergeOutcome n s m o keep d a t → merging.MergeOutcome n s m o keep d b u → (a ≡ b) × (t ≡ u)
    strumblay_merge_pinned m o keep = shown_written (Merges n s m o keep d) (growing.rebuilt_of n) t u (λ x y. merge_pinned n s m o keep d x y t u) a b

  -- ---- insert with a spare: both buffers afterwards
  module _ (hash most : ℕ) (d : List ℕ) (a b : SpareAnswer) (t u e g : List ℕ) where
    paired : {A : Type 0} {x y : A} → (x ≡ y) × (t ≡ u) × (e ≡ g) → (x ≡ y) × (◌≡◌ {A = List ℕ × List ℕ} (t, e) (u, g))
    paired p = (p.0, λ i. (p.1 i, p.2 i))

    apart : (a ≡ b) × (◌≡◌ {A = List ℕ × List ℕ} (t, e) (u, g)) → (a ≡ b) × (t ≡ u) × (e ≡ g)
    apart p = (p.0, ap (λ z. z.0) p.1, ap (λ z. z.1) p.1)

    pub strumblay_insert_spare_pinned : growing.InsertSpareOutcome n hash most s d a t e → growing.InsertSpareOutcome n hash most s d b u g → (a ≡ b) × (t ≡ u) × (e ≡ g)
    strumblay_insert_spare_pinned p q =
        apart (shown_written (λ x (z : List ℕ × List ℕ). InsertSpare n hash most s d x z.0 z.1) (growing.placed_of n) (t, e) (u, g)
        (λ x y v w. paired (insert_with_spare_pinned n hash most s d x y t u e g v w)) a b p q)

    pub strumblay_insert_spare_quick_pinned : InsertSettled n most s → growing.InsertSpareQuickOutcome n hash most s d a t e → growing.InsertSpareQuickOutcome n hash most s d b u g → (a ≡ b) × (t ≡ u) × (e ≡ g)
    strumblay_insert_spare_quick_pinned c p q =
        apart (shown_written (λ x (z : List ℕ × List ℕ). InsertSpareQuick n hash most s d x z.0 z.1) (growing.placed_of n) (t, e) (u, g)
        (λ x y v w. paired (insert_with_spare_quick_pinned n hash most s d x y t u e g c v w)) a b p q)
