use Rattle.std.proofs.Common.{◌≡◌, ◌*ℤ◌, to_z-of_z}
use Rattle.hull.proofs.Gaps.{gaps_fit}
use Rattle.hull.proofs.corner.Corner.distance.Goals as goal

pub overflow_add-result : goal.overflow_add-result
overflow_add-result c =
    let x = c.past-x.ensures.small.0 in
    let y = c.past-x.ensures.small.1 in
    let along : c.product.result ≡ c.past-x.result.0 *ℤ c.past-x.result.0 = simp (to_z-of_z, gaps_fit) at c.product.ensures.value in
    let across : c.product-2.result ≡ c.past-x.result.1 *ℤ c.past-x.result.1 = simp (to_z-of_z, gaps_fit) at c.product-2.ensures.value in
    rw (along, across) (simp (to_z-of_z, gaps_fit) (search gaps_fit))

pub returns : goal.returns
returns c =
    let x = c.past-x.ensures.small.0 in
    let y = c.past-x.ensures.small.1 in
    let along : c.product.result ≡ c.past-x.result.0 *ℤ c.past-x.result.0 = simp (to_z-of_z, gaps_fit) at c.product.ensures.value in
    let across : c.product-2.result ≡ c.past-x.result.1 *ℤ c.past-x.result.1 = simp (to_z-of_z, gaps_fit) at c.product-2.ensures.value in
    record {
      value = rw (along, across) (simp (to_z-of_z, gaps_fit) (simp (c.past-x.ensures.value.0, c.past-x.ensures.value.1)));
    }
