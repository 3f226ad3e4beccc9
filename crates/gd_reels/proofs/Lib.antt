mod Five
mod Greatest
