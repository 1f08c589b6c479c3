pub mod Found
pub mod NotFurther
