-- The loops that count and put a number's bytes: what is still to be counted or put is a shorter number's bytes.
use Prim.Native.Nat.{ℕ, zero, suc, ◌+◌, ◌*◌, ◌/◌, ◌%◌, ◌^◌, ◌<◌, ◌≤◌}
use mathlib.Core.List.{[], ◌∷◌}
use mathlib.Core.Path.{◌≡◌, refl, ap}
use native.Mathlib.Nat.{pow-suc, pow-zero}
use native.Mathlib.Omega.{arith}
use lib.ListN.{length}
use Rattle.lent.specs.declared.Page.{Page}
use Rattle.lent.specs.Page.{HasRoomFor, Puts}
use Rattle.lent.proofs.Filling.{ToPut, Splits, to_put_first, to_put_fits, to_put_step, to_put_done}
use Rattle.numbers.specs.Numbers.{encode_in, encode}
use Rattle.numbers.proofs.Groups.{encode_last, encode_more}

-- n - 1 bytes of v are counted, and those of rest are left
pub record Counting (v rest n : ℕ) : Type 0 where
  pub m : ℕ
  pub few : n + m ≡ 10
  pub small : rest < 2 * 128 ^ m
  pub count : length (encode v) + 1 ≡ n + length (encode_in (suc m) rest)

pub counting_first : (v : ℕ) → v < 2 ^ 64 → Counting v v 1
unfolding encode
counting_first v h = record { m = 9; few = refl; small = h; count = omega arith }

counting_next : (v rest n m : ℕ) → n + m ≡ 10 → rest < 2 * 128 ^ m → length (encode v) + 1 ≡ n + length (encode_in (suc m) rest) → 128 ≤ rest → Counting v (rest / 128) (n + 1)
counting_next v rest n zero f s e h = absurd (omega (arith, pow-zero 128))
counting_next v rest n (suc m) f s e h =
    record { m = m; few = omega arith; small = omega (arith, pow-suc 128 m); count = omega (arith, e, ap length (encode_more (suc m) rest h)) }

module _ {v rest n : ℕ} (c : Counting v rest n) where
  pub counting_step : 128 ≤ rest → Counting v (rest / 128) (n + 1)
  counting_step h = counting_next v rest n c.m c.few c.small c.count h

  pub counting_done : rest < 128 → n ≡ length (encode v)
  counting_done h = omega (arith, c.count, ap length (encode_last c.m rest h))

-- of v's bytes, those of rest are still to be put
pub record Writing (first : Page) (v : ℕ) (page : Page) (rest : ℕ) : Type 0 where
  pub m : ℕ
  pub small : rest < 2 * 128 ^ m
  pub left : ToPut first (encode v) page (encode_in (suc m) rest)

pub writing_first : (page : Page) (v : ℕ) → v < 2 ^ 64 → HasRoomFor page (encode v) → Writing page v page v
unfolding encode
writing_first page v h r = record { m = 9; small = h; left = to_put_first page (encode v) r }

-- the next byte, and the last
more_splits : (m rest : ℕ) {b : ℕ} → 128 ≤ rest → b ≡ 128 + rest % 128 → Splits (encode_in (suc m) rest) (b ∷ []) (encode_in m (rest / 128))
more_splits m rest h e = record { parts = rw e (encode_more m rest h) }

last_splits : (m rest : ℕ) {b : ℕ} → rest < 128 → b ≡ rest → Splits (encode_in (suc m) rest) (b ∷ []) []
last_splits m rest h e = record { parts = rw e (encode_last m rest h) }

writing_next : {first : Page} {v : ℕ} {page new : Page} (rest : ℕ) {b : ℕ} (m : ℕ) → rest < 2 * 128 ^ m → ToPut first (encode v) page (encode_in (suc m) rest) → 128 ≤ rest
    → b ≡ 128 + rest % 128 → Puts page (b ∷ []) new → Writing first v new (rest / 128)
writing_next rest zero s g h e p = absurd (omega (arith, pow-zero 128))
writing_next rest (suc m) s g h e p = record { m = m; small = omega (arith, pow-suc 128 m); left = to_put_step g (more_splits (suc m) rest h e) p }

module _ {first : Page} {v : ℕ} {page : Page} {rest : ℕ} (c : Writing first v page rest) {b : ℕ} where
  pub writing_room : 128 ≤ rest → b ≡ 128 + rest % 128 → HasRoomFor page (b ∷ [])
  writing_room h e = to_put_fits c.left (more_splits c.m rest h e)

  pub writing_room_last : rest < 128 → b ≡ rest → HasRoomFor page (b ∷ [])
  writing_room_last h e = to_put_fits c.left (last_splits c.m rest h e)

  pub writing_step : {new : Page} → 128 ≤ rest → b ≡ 128 + rest % 128 → Puts page (b ∷ []) new → Writing first v new (rest / 128)
  writing_step h e p = writing_next rest c.m c.small c.left h e p

  pub writing_done : {new : Page} → rest < 128 → b ≡ rest → Puts page (b ∷ []) new → Puts first (encode v) new
  writing_done h e p = to_put_done (to_put_step c.left (last_splits c.m rest h e) p) refl
