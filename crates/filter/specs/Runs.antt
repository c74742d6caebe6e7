-- Where runends stand and runs end, as the walks over blocks answer.
use Rattle.std.specs.Prelude.{Option, Some, None, ℕ, suc, ◌+◌, ◌-◌, ◌*◌, ◌/◌, ◌%◌, ◌^◌, ◌≤◌, ◌<◌, max, ◌≡◌}
use Rattle.std.proofs.Common.{sym, ap, ◌∙◌, arith}
use Rattle.theory.specs.tools.Total.{total}
use Rattle.theory.specs.Shape.{slots, blocks}
use Rattle.theory.specs.images.Sizes.{slots_blocks}
use Rattle.theory.specs.number.Field.{field}
use Rattle.theory.specs.number.Count.{rank}
use Rattle.theory.specs.Image.{Views, carry, start}
use Rattle.theory.specs.images.Block.{views, word_at}
use Rattle.theory.specs.reading.Ring.{ring_at}
use Rattle.theory.specs.carry.Carry.{FirstFree}
use Rattle.theory.specs.reading.Offsets.{Offsets}
use Rattle.theory.specs.reading.BehindRun.{Runs, behind_none, behind_some, behind_found}
use Rattle.theory.specs.reading.Walks.{NearestTold}
use Rattle.filter.specs.declared.runs.InBlock.{InBlock}
use Rattle.filter.specs.declared.runs.InBlock.TheVariants.{End, On}

-- the runend looked for, with `left` to be passed from digit `skip` of the word w on: its digit, or how many are left behind the word
abbrev pub InWord : ℕ → ℕ → ℕ → InBlock → Type 0
InWord w skip left (End p) = (skip ≤ p) × (p < 64) × (field w p 1 ≡ 1) × (rank w p ≡ rank w skip + left)
InWord w skip left (On rest) = rank w 64 + rest ≡ rank w skip + left

-- the n-th runend from slot `at` on, E being the runend bits round and round, or none in m slots
abbrev pub NthRunend : (ℕ → ℕ) → ℕ → ℕ → ℕ → Option ℕ → Type 0
NthRunend E m at n (Some p) = (at ≤ p) × (p < at + m + 64) × (E p ≡ 1) × (total E p ≡ total E at + n)
NthRunend E m at n None = total E (at + m) ≤ total E at + n

abbrev pub Within : ℕ → ℕ → Option ℕ → Type 0
Within low high (Some p) = (low ≤ p) × (p ≤ high)
Within low high None = Unit {0}

-- the slot behind the run of x, where the next quotient's run starts, told by the offset o of its block
pub record Behind (m : ℕ) (v : Views) (x o : ℕ) (f : Option ℕ) : Type 0 where
  pub right : (n : ℕ → ℕ) → Runs m n v → o ≡ carry m n (64 * (x / 64)) → f ≡ Some (start m n (suc x))
  pub bound : Within (suc x) (x + o + m + 65) f

-- how many blocks before block b the nearest one stands whose byte is below 255, if there is one
abbrev pub NearestAt : ℕ → Views → ℕ → Option ℕ → Type 0
NearestAt B v b (Some k) = (0 < k) × NearestTold B v b k
NearestAt B v b None = NearestTold B v b 0

-- the carry before the block behind block b, told by the carry o before b
pub record NextCarry (m : ℕ) (v : Views) (b o : ℕ) (f : Option ℕ) : Type 0 where
  pub right : (n : ℕ → ℕ) → Runs m n v → o ≡ carry m n (64 * b) → f ≡ Some (carry m n (64 * b + 64))
  pub bound : Within 0 m f

-- how far behind slot s, not taken round the end, the slot behind its quotient's run is
pub record PastRun (m : ℕ) (v : Views) (s : ℕ) (f : Option ℕ) : Type 0 where
  pub right : (n : ℕ → ℕ) → Runs m n v → Offsets m n v → f ≡ Some (start m n (suc s) - s)
  pub bound : Within 1 (2 ^ 60 + m + 65) f

-- the first free slot from slot x on, not taken round the end
pub record FreeFrom (m : ℕ) (v : Views) (x : ℕ) (f : Option ℕ) : Type 0 where
  pub right : (n : ℕ → ℕ) → Runs m n v → Offsets m n v → (z : FirstFree m n x) → f ≡ Some z.at
  pub bound : Within x (x + m - 1) f

-- 64 slots for each of the blocks counted
pub slots_counted : (q B : ℕ) → 6 ≤ q → B ≡ blocks q → slots q ≡ 64 * B
slots_counted q B h e = omega (arith, slots_blocks q h)

-- the three ways to find it: no quotient of the block up to x is occupied; the runend of the last that is; or none, on a damaged buffer only
module _ (r buf m B x o k : ℕ) (whole : m ≡ 64 * B) (l : x < m) (ek : k ≡ rank (word_at r 1 buf (x / 64)) (x % 64 + 1)) where
  slot : 64 * (x / 64) + x % 64 ≡ x
  slot = omega arith

  pub behind_empty : (z : ℕ) → k ≡ 0 → z ≡ max (x + 1) (64 * (x / 64) + o) → Behind m (views r buf) x o (Some z)
  behind_empty z none e = record {
    right = λ n w eo. ap Some (sym (rw slot at (behind_none r buf m B whole n w (x / 64) (x % 64) o k (omega arith) (omega arith) eo ek none) ∙ omega arith));
    bound = (omega arith, omega arith);
  }

  pub behind_last : (p z : ℕ) → 0 < k → NthRunend (ring_at r 9 m buf) m (64 * (x / 64) + o) (k - 1) (Some p) → z ≡ max (x + 1) (p + 1) → Behind m (views r buf) x o (Some z)
  behind_last p z some t e = record {
    right = λ n w eo. ap Some (sym (rw slot at (behind_some r buf m B whole n w (x / 64) (x % 64) o k (omega arith) (omega arith) eo ek p some t.2 t.3) ∙ omega arith));
    bound = (omega arith, omega arith);
  }

  pub behind_missed : 0 < k → NthRunend (ring_at r 9 m buf) m (64 * (x / 64) + o) (k - 1) None → Behind m (views r buf) x o None
  behind_missed some t = record {
    right = λ n w eo. absurd (behind_found r buf m B whole n w (x / 64) (x % 64) o k (omega arith) (omega arith) eo ek t some);
    bound = tt;
  }
