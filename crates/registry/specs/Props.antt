-- A node stands in a registry in one way at most, so that the fact may be a field of a struct.
use Rattle.std.specs.Prelude.{ℕ, ◌≡◌, refl, Bool, List}
use Rattle.std.specs.Coded.{Coded, Coded-set, code_by, coded×, coded_ℕ, coded_bool, coded_list, le_prop}
use Rattle.entries.specs.declared.IdentifierId.{IdentifierId}
use Rattle.entries.specs.declared.NodeId.{NodeId}
use Rattle.entries.specs.declared.DependencyPathEntry.{DependencyPathEntry}
use Rattle.entries.specs.declared.PropertyLiteral.{PropertyLiteral}
use Rattle.entries.specs.declared.PropertyLiteral.TheVariants.{String, Number}
use Rattle.entries.specs.Property.{property_of, is_number, value_of}
use Rattle.entries.specs.Path.{ReactiveScopeDependency}
use Rattle.model.specs.Registry.{Origin, root, child_of, PropertyPathRegistry}
use Rattle.model.specs.RegistryLaws.{Child, StandsAsRoot, StandsAsChild, StandsAt}

number_prop : (x y : ℕ) → IsProp (x ≡ y)
number_prop x y = Coded-set coded_ℕ x y

property_back : (p : PropertyLiteral) → property_of (is_number p) (value_of p) ≡ p
property_back (String v) = refl
property_back (Number v) = refl

coded_property : Coded PropertyLiteral
coded_property = code_by (Bool × ℕ) (coded× coded_bool coded_ℕ) (λ p. (is_number p, value_of p)) (λ x. property_of x.0 x.1) property_back

coded_entry : Coded DependencyPathEntry
coded_entry =
    code_by (PropertyLiteral × (Bool × ℕ)) (coded× coded_property (coded× coded_bool coded_ℕ)) (λ e. (e.property, (e.optional, e.span)))
    (λ x. record { property = x.0; optional = x.1.0; span = x.1.1 }) (λ e. refl)

coded_identifier : Coded IdentifierId
coded_identifier = code_by ℕ coded_ℕ (λ i. i.0) (λ x. record { 0 = x }) (λ i. refl)

path_prop : (xs ys : List DependencyPathEntry) → IsProp (xs ≡ ys)
path_prop xs ys = Coded-set (coded_list coded_entry) xs ys

root_prop : (reg : PropertyPathRegistry) (k : ℕ) (d : ReactiveScopeDependency) → IsProp (StandsAsRoot reg k d)
root_prop reg k d = λ a b i. record { path = path_prop _ _ a.path b.path i; only = number_prop _ _ a.only b.only i }

step_prop : (d : ReactiveScopeDependency) (e : DependencyPathEntry) (c : ReactiveScopeDependency) → IsProp (Child d e c)
step_prop d e c = λ a b i. record {
  identifier = Coded-set coded_identifier _ _ a.identifier b.identifier i;
  reactive = Coded-set coded_bool _ _ a.reactive b.reactive i;
  path = path_prop _ _ a.path b.path i;
  span = number_prop _ _ a.span b.span i;
}

child_prop : (reg : PropertyPathRegistry) (k : ℕ) (p : NodeId) (e : DependencyPathEntry) (d : ReactiveScopeDependency)
    → IsProp (StandsAsChild reg k p e d)
child_prop reg k p e d = λ a b i. record {
  after = le_prop a.after b.after i;
  child = step_prop _ _ _ a.child b.child i;
  only = number_prop _ _ a.only b.only i;
}

pub StandsAt-prop : (reg : PropertyPathRegistry) (k : ℕ) (o : Origin) (d : ReactiveScopeDependency) → IsProp (StandsAt reg k o d)
StandsAt-prop reg k root d = root_prop reg k d
StandsAt-prop reg k (child_of p e) d = child_prop reg k p e d
