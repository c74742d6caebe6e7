-- The writes of a remove, one after the other, are what OneFewer asks: one remainder taken out, one runend bit, the occupied bit as it is to be, and the
-- offset bytes told anew. Assumes nothing.
use Rattle.std.specs.Prelude.{ℕ, suc, ◌+◌, ◌-◌, ◌*◌, ◌/◌, ◌%◌, ◌^◌, ◌≤◌, ◌<◌, min, ◌≡◌, refl, ◌⊎◌, ◌≢◌, List, [], ◌∷◌, length}
use Rattle.std.proofs.Common.{sym, ap, ◌∙◌, inl, inr, arith, mod-eq_of_lt, pow_pos}
use Rattle.std.proofs.Math.Decide.{dec_le, dec_lt, ℕ_discrete}
use Rattle.std.proofs.Math.Nat.{add-mod_right}
use Rattle.theory.specs.tools.Choose.{choose_by}
use Rattle.theory.specs.Holding.{run, Holding, more, fewer, copies, Under}
use Rattle.theory.specs.list.Fewer.{fewer_ascending, more_fewer}
use Rattle.theory.specs.list.Last.{LastOf, last_place}
use Rattle.theory.specs.list.More.{place, more_length, run_more_here}
use Rattle.theory.specs.list.Runs.{run_ascending}
use Rattle.theory.specs.Image.{many, start, carry, Views}
use Rattle.theory.specs.carry.Carry.{mod_window, carry_per, start_carry}
use Rattle.theory.specs.carry.CarryMore.{upto, upto_out}
use Rattle.theory.specs.reading.BehindRun.{Runs, image_runs}
use Rattle.theory.specs.images.Block.{cell_same, put_cell, occupieds, views, remainders, cell_offset, runends, cell_tail, cell_at, cell_behind, offset_at, tail_at, cell_other}
use Rattle.theory.specs.writing.RaisedOffsets.{OffApart}
use Rattle.theory.specs.writing.OneFewer.{Back, Removed, fewer_image, last_shifted}
use Rattle.theory.specs.reading.LastShifted.{LastShifted}
use Rattle.theory.specs.writing.PutIn.{TakenOut}
use Rattle.theory.specs.writing.RenewedOffsets.{Renewed}
use Rattle.theory.specs.images.ByViews.{Image}
use Rattle.theory.specs.writing.OneMore as P

-- all but the offset bytes
pub record TookOut (r m B q a b e bit x x' : ℕ) : Type 0 where
  pub x₁ : ℕ
  pub x₂ : ℕ
  pub take_remainder : TakenOut r 17 r m B a e x x₁
  pub take_runend : TakenOut r 9 1 m B b e x₁ x₂
  pub after : x' ≡ put_cell r 1 1 x₂ q bit

module _ (r m B q a b e bit x x' : ℕ) (whole : m ≡ 64 * B) (inside : q < m) (small : bit < 2 ^ 1) (w : TookOut r m B q a b e bit x x') where
  remainder_is : (t : ℕ) → cell_at r 17 r x' t ≡ cell_at r 17 r w.x₁ t
  remainder_is t =
      ap (λ z. cell_at r 17 r z t) w.after ∙ cell_behind r 1 1 (occupieds r) w.x₂ q bit small 17 r (remainders r) (omega arith) t
      ∙ w.take_runend.apart.behind 17 r (remainders r) (omega arith) t

  runend_is : (t : ℕ) → cell_at r 9 1 x' t ≡ cell_at r 9 1 w.x₂ t
  runend_is t = ap (λ z. cell_at r 9 1 z t) w.after ∙ cell_behind r 1 1 (occupieds r) w.x₂ q bit small 9 1 (runends r) (omega arith) t

  runend_was : (t : ℕ) → cell_at r 9 1 w.x₁ t ≡ cell_at r 9 1 x t
  runend_was t = w.take_remainder.apart.before 9 1 (runends r) (omega arith) t

  occupied_new : cell_at r 1 1 x' q ≡ bit
  occupied_new = ap (λ z. cell_at r 1 1 z q) w.after ∙ cell_same r 1 1 (occupieds r) w.x₂ q bit small

  occupied_was : (t : ℕ) → t ≢ q → cell_at r 1 1 x' t ≡ cell_at r 1 1 x t
  occupied_was t ne =
      ap (λ z. cell_at r 1 1 z t) w.after ∙ cell_other r 1 1 (occupieds r) w.x₂ q bit small t (λ z. ne (sym z))
      ∙ w.take_runend.apart.before 1 1 (occupieds r) (omega arith) t ∙ w.take_remainder.apart.before 1 1 (occupieds r) (omega arith) t

  offset_was : (c : ℕ) → offset_at r x' c ≡ offset_at r x c
  offset_was c = ap (λ z. offset_at r z c) w.after ∙ cell_offset r 1 1 (occupieds r) w.x₂ q bit small c ∙ w.take_runend.apart.offset c ∙ w.take_remainder.apart.offset c

  pub taken_tail : tail_at r B x' ≡ tail_at r B x
  taken_tail = ap (tail_at r B) w.after ∙ cell_tail r 1 1 (occupieds r) w.x₂ q bit small B (omega arith) ∙ w.take_runend.apart.tail ∙ w.take_remainder.apart.tail

-- cells moved back, told of other functions that agree
back_as : (m a e : ℕ) (f g f' g' : ℕ → ℕ) → ((t : ℕ) → f t ≡ f' t) → ((t : ℕ) → g t ≡ g' t) → Back m a e f' g' → Back m a e f g
back_as m a e f g f' g' ef eg s = record {
  moved = λ t l b. eg (t % m) ∙ s.moved t l b ∙ sym (ef (suc t % m));
  cleared = eg (e % m) ∙ s.cleared;
  kept = λ t l b. eg (t % m) ∙ s.kept t l b ∙ sym (ef (t % m));
}

module _ (r m B : ℕ) (whole : m ≡ 64 * B) (l : List ℕ) (f : ℕ) (h : Holding m (2 ^ r) l) (u : f < m * 2 ^ r) (k : suc (length l) < m) where
  abbrev n : ℕ → ℕ
  n = many m (2 ^ r) l

  abbrev n' : ℕ → ℕ
  n' = many m (2 ^ r) (more f l)

  abbrev q : ℕ
  q = f / 2 ^ r

  q< : q < m
  q< = P.q< m (2 ^ r) (pow_pos r) l f h u k

  less : (y : ℕ) → q < y → y ≤ q + m → carry m n' y ≡ carry m n y + upto (P.room m (2 ^ r) (pow_pos r) l f h u k).at y
  less = P.more_carry m (2 ^ r) (pow_pos r) l f h u k

  round : (y : ℕ) → carry m n (y + m) ≡ carry m n y
  round = carry_per m n (P.r m (2 ^ r) (pow_pos r) l f h u k)

  round' : (y : ℕ) → carry m n' (y + m) ≡ carry m n' y
  round' = carry_per m n' (P.r' m (2 ^ r) (pow_pos r) l f h u k)

  -- the slot to clear, as the walk over the larger filter finds it
  pub room_shifted : LastShifted m n' q (P.room m (2 ^ r) (pow_pos r) l f h u k).at
  room_shifted =
      let z = P.room m (2 ^ r) (pow_pos r) l f h u k in
      let s = last_shifted m (2 ^ r) (pow_pos r) l f h u k in
      record { from = z.from; to = z.to; none = s.0; before = s.1 }

  -- the run starts where it did
  pub start_kept : start m n' q ≡ start m n q
  start_kept =
      let z = P.room m (2 ^ r) (pow_pos r) l f h u k in
      omega (arith, start_carry m n q, start_carry m n' q, less (q + m) (omega (arith, q<)) (omega arith), upto_out z.at (q + m) z.to, round q, round' q)

  -- the carry before the quotient's own block falls by one if the slot cleared lies in that block, a round on
  pub carry_without : carry m n' (64 * (q / 64)) - upto (P.room m (2 ^ r) (pow_pos r) l f h u k).at (64 * (q / 64) + m) ≡ carry m n (64 * (q / 64))
  carry_without = omega (arith, less (64 * (q / 64) + m) (omega (arith, q<)) (omega arith), round (64 * (q / 64)), round' (64 * (q / 64)))

  module _ (a b e bit j x x' : ℕ) (ea : a ≡ start m n q + place (f % 2 ^ r) (run (2 ^ r) l q)) (eb : b ≡ start m n q + j)
      (ee : e ≡ (P.room m (2 ^ r) (pow_pos r) l f h u k).at) (is : (j < n q) ⊎ ((n q ≡ 0) × (j ≡ 0))) (ebit : bit ≡ min 1 (n q))
      (w : TookOut r m B q a b e bit x x') (i : Image m (2 ^ r) (more f l) (views r x)) where
    small : bit < 2 ^ 1
    small = omega arith

    -- but for the offset bytes, the views are the image
    abbrev told : Views
    told = record { occupied = cell_at r 1 1 x'; runend = cell_at r 9 1 x'; remainder = cell_at r 17 r x'; offset = λ c. min (carry m n (64 * c)) 255 }

    told_image : Image m (2 ^ r) l told
    told_image = fewer_image m (2 ^ r) (pow_pos r) l f h u k (views r x) told done i
      where
        offsets : (c y : ℕ) → q < y → y ≤ q + m → (y ≡ 64 * c) ⊎ (y ≡ 64 * c + m) → min (carry m n (64 * c)) 255 ≡ min (carry m n' y - upto e y) 255
        offsets c y low high (inl z) =
            let d = less y low high in
            rw (ee, ← z) (omega arith)
        offsets c y low high (inr z) =
            let d = less y low high in
            let g : carry m n y ≡ carry m n (64 * c) = ap (carry m n) z ∙ round (64 * c) in
            rw ee (omega arith)

        done : Removed m (2 ^ r) (pow_pos r) l f h u k (views r x) told
        done = record {
          occupied = occupied_new r m B q a b e bit x x' whole q< small w ∙ ebit;
          occupied_other = λ t d ne. occupied_was r m B q a b e bit x x' whole q< small w t ne;
          remainders = rw (← ea, ← ee) (back_as m a e _ _ _ _ (λ t. refl) (remainder_is r m B q a b e bit x x' whole q< small w) w.take_remainder.back);
          bit_place = j;
          bit_is = is;
          runends = rw (← eb, ← ee) (back_as m b e _ _ _ _ (λ t. sym (runend_was r m B q a b e bit x x' whole q< small w t)) (runend_is r m B q a b e bit x x' whole q< small w) w.take_runend.back);
          offsets = λ c y d low high z. rw (← ee) (offsets c y low high z);
        }

    pub taken_runs : Runs m n (views r x')
    taken_runs =
        let g = image_runs m (2 ^ r) l told (pow_pos r) h told_image in
        record { round = g.round; occupieds = g.occupieds; runends = g.runends }

    -- and the offset bytes told anew are those of the image
    pub removed_image : (x'' : ℕ) → Renewed r m B (q / 64) (e / 64 - q / 64) n x' x'' → OffApart r B x' x'' → Image m (2 ^ r) l (views r x'')
    removed_image x'' y p = record {
      occupieds = λ t d. p.cells 1 1 (occupieds r) t ∙ told_image.occupieds t d;
      runends = record {
        used = λ t j d. p.cells 9 1 (runends r) ((start m n t + j) % m) ∙ told_image.runends.used t j d;
        free = λ t z. p.cells 9 1 (runends r) (t % m) ∙ told_image.runends.free t z;
      };
      remainders = record {
        used = λ t j d. p.cells 17 r (remainders r) ((start m n t + j) % m) ∙ told_image.remainders.used t j d;
        free = λ t z. p.cells 17 r (remainders r) (t % m) ∙ told_image.remainders.free t z;
      };
      offsets = λ c d. offsets c d (dec_lt q (64 * c));
    }
      where
        to : e < q + m
        to = omega (arith, (P.room m (2 ^ r) (pow_pos r) l f h u k).to)

        from : q ≤ e
        from = omega (arith, (P.room m (2 ^ r) (pow_pos r) l f h u k).from)

        -- z is c or c + B, and lies behind block q / 64, at most a round on
        at_block : (c z : ℕ) → 64 * c < m → z % B ≡ c → q / 64 < z → z ≤ q / 64 + B → carry m n' (64 * c) ≡ carry m n' (64 * z) → offset_at r x'' c ≡ min (carry m n (64 * z)) 255
        at_block c z d ez low high same = go (dec_le z (e / 64))
          where
            go : Dec (z ≤ e / 64) → offset_at r x'' c ≡ min (carry m n (64 * z)) 255
            go (yes g) = rw ez at (y.told z low (omega arith))
            go (no g) =
                y.kept c (λ v s t o. absurd (omega (arith, mod_window B (suc (q / 64)) v z (omega arith) (omega arith) (omega arith) (omega arith) (o ∙ sym ez))))
                ∙ offset_was r m B q a b e bit x x' whole q< small w c ∙ i.offsets c d ∙ ap (λ v. min v 255) gone
              where
                gone : carry m n' (64 * c) ≡ carry m n (64 * z)
                gone = omega (arith, same, less (64 * z) (omega arith) (omega arith), ap (λ v. upto v (64 * z)) ee, upto_out e (64 * z) (omega arith))

        offsets : (c : ℕ) → 64 * c < m → Dec (q < 64 * c) → offset_at r x'' c ≡ min (carry m n (64 * c)) 255
        offsets c d (yes g) = at_block c c d (mod-eq_of_lt (omega arith)) (omega arith) (omega (arith, q<)) refl
        offsets c d (no g) =
            let s : 64 * (c + B) ≡ 64 * c + m = omega arith in
            at_block c (c + B) d (add-mod_right c B ∙ mod-eq_of_lt (omega arith)) (omega (arith, q<)) (omega arith) (rw s (sym (round' (64 * c))))
            ∙ ap (λ v. min v 255) (rw s (round (64 * c)))

-- one copy fewer: the holding, and the run that it is taken from
fewer_under : (b f : ℕ) (l : List ℕ) → Under b l → Under b (fewer f l)
unfolding Under fewer
fewer_under b f [] u = tt
fewer_under b f (g ∷ l) u = choose_by (Under b) (ℕ_discrete g f) (λ _. u.1) (λ _. (u.0, fewer_under b f l u.1))

module _ (m R : ℕ) (pos : 0 < R) (f : ℕ) (l : List ℕ) (h : Holding m R l) (held : 0 < copies f l) where
  pub put_back : more f (fewer f l) ≡ l
  put_back = more_fewer f l h.ascending held

  pub fewer_length : suc (length (fewer f l)) ≡ length l
  fewer_length = sym (more_length f (fewer f l)) ∙ ap length put_back

  pub fewer_holding : Holding m R (fewer f l)
  fewer_holding = record { ascending = fewer_ascending f l h.ascending; under = fewer_under (m * R) f l h.under; fewer = omega (arith, fewer_length, h.fewer) }

  run_was : run R l (f / R) ≡ more (f % R) (run R (fewer f l) (f / R))
  run_was = ap (λ z. run R z (f / R)) (sym put_back) ∙ run_more_here R pos f (fewer f l) (f / R) refl (fewer_ascending f l h.ascending)

  pub run_shorter : length (run R l (f / R)) ≡ suc (length (run R (fewer f l) (f / R)))
  run_shorter = ap length run_was ∙ more_length (f % R) (run R (fewer f l) (f / R))

  -- the last equal place of the run is the one that goes
  pub last_goes : (p : ℕ) → LastOf (f % R) (run R l (f / R)) (length (run R l (f / R))) (suc p) → p ≡ place (f % R) (run R (fewer f l) (f / R))
  last_goes p w = last_place (f % R) (run R (fewer f l) (f / R)) p (run_ascending R pos (fewer f l) (f / R) (fewer_ascending f l h.ascending)) (rw run_was at w)
